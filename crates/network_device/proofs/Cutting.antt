-- A run of bytes as frames of some lengths.
use Rattle.std.proofs.Common.{◌≡◌, ℕ, zero, suc, ◌+◌, ◌-◌, ◌≤◌, arith, List, [], ◌∷◌, ◌++◌, length, take, drop, Some, slice_get, refl, ap, ap₂, ◌∙◌, option_map}
use Rattle.std.specs.Prelude.{min}
use Rattle.std.proofs.lemmas.List.{drop-drop, drop-append-le, drop_all, length-take, length-drop, take-append-le, take_all}
use Rattle.network_device.specs.Frames.{total, sum_of, cut}

-- as many frames as lengths
pub length-cut : (lens bytes : List ℕ) → length (cut lens bytes) ≡ length lens
length-cut [] bytes = refl
length-cut (n ∷ lens) bytes = ap suc (length-cut lens (drop n bytes))

-- and as many bytes as the lengths say, where there are so many
pub total-cut : (lens bytes : List ℕ) → sum_of lens ≤ length bytes → total (cut lens bytes) ≡ sum_of lens
total-cut [] bytes h = refl
total-cut (n ∷ lens) bytes h =
    let s : sum_of (n ∷ lens) ≡ n + sum_of lens = refl in
    let e = length-take n bytes in let d = length-drop n bytes in
    let later = total-cut lens (drop n bytes) (omega (arith, h, s, d)) in
    let first : length (take n bytes) ≡ n = omega (arith, h, s, e) in
    ap₂ (λ (a b : ℕ). a + b) first later

-- the length of each frame
pub get-cut : (lens bytes : List ℕ) (i : ℕ) → sum_of lens ≤ length bytes
    → option_map (λ (frame : List ℕ). length frame) (slice_get (cut lens bytes) i) ≡ slice_get lens i
get-cut [] bytes i h = refl
get-cut (n ∷ lens) bytes zero h =
    let s : sum_of (n ∷ lens) ≡ n + sum_of lens = refl in
    let e = length-take n bytes in
    ap Some (omega (arith, h, s, e))
get-cut (n ∷ lens) bytes (suc i) h =
    let s : sum_of (n ∷ lens) ≡ n + sum_of lens = refl in
    let d = length-drop n bytes in
    get-cut lens (drop n bytes) i (omega (arith, h, s, d))

some_is : (a b : ℕ) → Some a ≡ Some b → a ≡ b
some_is a b e = cc

-- the oldest frame is the first bytes
pub front-cut : (lens bytes : List ℕ) (len : ℕ)
    → option_map (λ (frame : List ℕ). length frame) (slice_get (cut lens bytes) 0) ≡ Some len
    → sum_of lens ≤ length bytes
    → (len ≤ length bytes) × (slice_get (cut lens bytes) 0 ≡ Some (take len bytes))
front-cut [] bytes len e h = cc
front-cut (n ∷ lens) bytes len e h =
    let s : sum_of (n ∷ lens) ≡ n + sum_of lens = refl in
    let t = length-take n bytes in
    let k : length (take n bytes) ≡ len = some_is (length (take n bytes)) len e in
    let same : n ≡ len = omega (arith, h, s, t, k) in
    (omega (arith, h, s, same), ap (λ m. Some (take m bytes)) same)

-- more bytes behind make no difference
pub cut-more : (lens bytes more : List ℕ) → sum_of lens ≤ length bytes
    → cut lens (bytes ++ more) ≡ cut lens bytes
cut-more [] bytes more h = refl
cut-more (n ∷ lens) bytes more h =
    let s : sum_of (n ∷ lens) ≡ n + sum_of lens = refl in
    let d = length-drop n bytes in
    ap₂ (λ (a : List ℕ) (b : List (List ℕ)). a ∷ b) (take-append-le n bytes more (omega (arith, h, s)))
    (ap (cut lens) (drop-append-le n bytes more (omega (arith, h, s)))
    ∙ cut-more lens (drop n bytes) more (omega (arith, h, s, d)))

-- one more frame: the bytes behind the others
pub sum-push : (lens : List ℕ) (n : ℕ) → sum_of (lens ++ n ∷ []) ≡ sum_of lens + n
sum-push [] n = let s : sum_of (n ∷ []) ≡ n + 0 = refl in omega (arith, s)
sum-push (k ∷ lens) n =
    let e = sum-push lens n in
    let s : sum_of (k ∷ lens) ≡ k + sum_of lens = refl in
    let t : sum_of ((k ∷ lens) ++ n ∷ []) ≡ k + sum_of (lens ++ n ∷ []) = refl in
    omega (arith, e, s, t)

pub cut-push : (lens bytes : List ℕ) (n : ℕ) → sum_of lens + n ≡ length bytes
    → cut (lens ++ n ∷ []) bytes ≡ cut lens bytes ++ drop (sum_of lens) bytes ∷ []
cut-push [] bytes n e =
    let h : n ≡ length bytes = omega (arith, e) in
    ap (λ (l : List ℕ). l ∷ []) (take_all n bytes (omega (arith, h)))
cut-push (k ∷ lens) bytes n e =
    let s : sum_of (k ∷ lens) ≡ k + sum_of lens = refl in
    let d = length-drop k bytes in
    ap (λ (l : List (List ℕ)). take k bytes ∷ l) (cut-push lens (drop k bytes) n (omega (arith, e, s, d))
    ∙ ap (λ (l : List ℕ). cut lens (drop k bytes) ++ l ∷ []) (drop-drop (sum_of lens) k bytes))

-- ---- what a store does

pub appended : (part items bytes : List ℕ) (most count : ℕ) → length bytes + length part ≤ most
    → count ≡ min (length part) (most - length bytes) → items ≡ bytes ++ take count part
    → items ≡ bytes ++ part
appended part items bytes most count room c e =
    e ∙ ap (λ (l : List ℕ). bytes ++ l) (take_all count part (omega (arith, room, c)))

-- a frame ends: the lengths then sum to all bytes, and the bytes that were begun are one more frame
pub record Ended (lens bytes more : List ℕ) : Type 0 where
  pub sum : sum_of more ≡ length bytes
  pub frames : cut more bytes ≡ cut lens bytes ++ drop (sum_of lens) bytes ∷ []
  pub begun : drop (sum_of more) bytes ≡ []

pub ended : (lens bytes more : List ℕ) (whole all : ℕ) → sum_of lens ≡ whole → whole ≤ length bytes
    → all ≡ length bytes → more ≡ lens ++ (all - whole) ∷ [] → Ended lens bytes more
ended lens bytes more whole all sum held all_is is =
    let n = all - whole in
    let k : sum_of lens + n ≡ length bytes = omega (arith, sum, held, all_is) in
    let total : sum_of more ≡ length bytes = ap sum_of is ∙ sum-push lens n ∙ k in
    record {
      sum = total;
      frames = ap (λ (l : List ℕ). cut l bytes) is ∙ cut-push lens bytes n k;
      begun = drop_all (sum_of more) bytes (omega (arith, total));
    }
