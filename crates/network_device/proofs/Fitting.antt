-- Which of the waiting frames fits a chain.
use Rattle.std.proofs.Common.{◌≡◌, ℕ, zero, suc, ◌+◌, ◌-◌, ◌≤◌, ◌<◌, ◌&&◌, nat_le, arith, Bool, true, false, List, [], ◌∷◌, ◌++◌, length, get_or, drop, Some, None, option_map, slice_get, refl, sym, ap, ◌∙◌}
use Rattle.std.specs.Bool.{one_answer}
use Rattle.std.proofs.Math.Seq.{drop-cons}
use Rattle.std.proofs.lemmas.List.{drop-drop, drop_all, length-append, length-drop}
use Rattle.std.proofs.lemmas.Bool.{leb-true, le-leb}
use Rattle.chain.proofs.Servicing.{both}
use Rattle.network_device.specs.declared.limits.Limits.{Limits}
use Rattle.network_device.specs.Device.{fits, misfits}
use Rattle.network_device.specs.Frames.{Store}
use Rattle.network_device.proofs.Rooms.{and_true}

some_is : (a b : ℕ) → Some a ≡ Some b → a ≡ b
some_is a b e = cc

-- the frame at a place has the length that the store tells
length-at : (frames : List (List ℕ)) (place len : ℕ)
    → option_map (λ (frame : List ℕ). length frame) (slice_get frames place) ≡ Some len
    → length (get_or frames place []) ≡ len
length-at [] place len e = cc
length-at (f ∷ frames) zero len e = some_is (length f) len e
length-at (f ∷ frames) (suc place) len e = length-at frames place len e

pub fits_is : (frames : List (List ℕ)) (place len room rest : ℕ)
    → option_map (λ (frame : List ℕ). length frame) (slice_get frames place) ≡ Some len → rest ≡ room - 12
    → (nat_le 12 room && nat_le len rest) ≡ fits room (get_or frames place [])
fits_is frames place len room rest e r =
    let l = length-at frames place len e in
    let f = get_or frames place [] in
    one_answer {P = 12 + length f ≤ room} (nat_le 12 room && nat_le len rest) (fits room f) (
      λ h. (let p = and_true (nat_le 12 room) (nat_le len rest) h in
          let a = leb-true 12 room p.0 in let b = leb-true len rest p.1 in omega (arith, l, r, a, b)),
      λ (h : 12 + length f ≤ room). both (nat_le 12 room) (nat_le len rest)
          (le-leb 12 room (omega (arith, h))) (le-leb len rest (omega (arith, h, l, r))),
    )
    (leb-true (12 + length f) room, le-leb (12 + length f) room)

-- there is a frame at each place
pub some_at : (frames : List (List ℕ)) (place : ℕ)
    → option_map (λ (frame : List ℕ). length frame) (slice_get frames place) ≡ None
    → place < length frames → ⊥
some_at [] place e lt = omega (arith, lt)
some_at (f ∷ frames) zero e lt = cc
some_at (f ∷ frames) (suc place) e lt =
    let s : length (f ∷ frames) ≡ suc (length frames) = refl in
    some_at frames place e (omega (arith, lt, s))

-- so many frames in front were looked at, and none of them fits
pub record IsSearching (w : ℕ) (frames : List (List ℕ)) (place : ℕ) : Type 0 where
  pub some : place ≤ length frames
  pub rest : place + misfits w (drop place frames) ≡ misfits w frames

pub at_first : (w : ℕ) (frames : List (List ℕ)) → IsSearching w frames 0
at_first w frames = record { some = omega arith; rest = omega arith }

misfits_cons : (w : ℕ) (f : List ℕ) (frames : List (List ℕ)) → fits w f ≡ false
    → misfits w (f ∷ frames) ≡ suc (misfits w frames)
misfits_cons w f frames e = rw e refl

misfits_none : (w : ℕ) (f : List ℕ) (frames : List (List ℕ)) → fits w f ≡ true → misfits w (f ∷ frames) ≡ 0
misfits_none w f frames e = rw e refl

module _ (w : ℕ) (frames : List (List ℕ)) (place : ℕ) (h : IsSearching w frames place) where
  pub look_on : place < length frames → fits w (get_or frames place []) ≡ false
      → IsSearching w frames (place + 1)
  look_on lt misfit =
      let at = drop-cons frames place [] lt in
      let e = ap (misfits w) at ∙ misfits_cons w (get_or frames place []) (drop (suc place) frames) misfit in
      let k : place + 1 ≡ suc place = omega arith in
      let d : misfits w (drop (place + 1) frames) ≡ misfits w (drop (suc place) frames)
      = ap (λ n. misfits w (drop n frames)) k in
      record { some = omega (arith, lt); rest = omega (arith, e, d, h.rest) }

  pub found : place < length frames → fits w (get_or frames place []) ≡ true → place ≡ misfits w frames
  found lt fit =
      let at = drop-cons frames place [] lt in
      let e = ap (misfits w) at ∙ misfits_none w (get_or frames place []) (drop (suc place) frames) fit in
      omega (arith, e, h.rest)

  pub none_found : length frames ≤ place → place ≡ misfits w frames
  none_found le =
      let e : misfits w (drop place frames) ≡ 0 = ap (misfits w) (drop_all place frames le) in
      omega (arith, e, h.rest)

-- no more misfits than frames
misfits_le_cons : (b : Bool) (w : ℕ) (f : List ℕ) (frames : List (List ℕ)) → fits w f ≡ b
    → misfits w frames ≤ length frames → misfits w (f ∷ frames) ≤ length (f ∷ frames)
misfits_le_cons true w f frames e h = let n = misfits_none w f frames e in omega (arith, n)
misfits_le_cons false w f frames e h =
    let n = misfits_cons w f frames e in let s : length (f ∷ frames) ≡ suc (length frames) = refl in
    omega (arith, n, h, s)

pub misfits_le : (w : ℕ) (frames : List (List ℕ)) → misfits w frames ≤ length frames
misfits_le w [] = omega arith
misfits_le w (f ∷ frames) = misfits_le_cons (fits w f) w f frames refl (misfits_le w frames)

-- the first that isn't one fits
head_is : (g f : List ℕ) (frames later : List (List ℕ)) → g ∷ frames ≡ f ∷ later → g ≡ f
head_is g f frames later e = cc

first_fits_cons : (b : Bool) (w : ℕ) (g : List ℕ) (frames later : List (List ℕ)) (f : List ℕ) → fits w g ≡ b
    → (drop (misfits w frames) frames ≡ f ∷ later → fits w f ≡ true)
    → drop (misfits w (g ∷ frames)) (g ∷ frames) ≡ f ∷ later → fits w f ≡ true
first_fits_cons true w g frames later f e h is =
    let n = ap (λ k. drop k (g ∷ frames)) (misfits_none w g frames e) in
    ap (fits w) (sym (head_is g f frames later (sym n ∙ is))) ∙ e
first_fits_cons false w g frames later f e h is =
    let n = ap (λ k. drop k (g ∷ frames)) (misfits_cons w g frames e) in h (sym n ∙ is)

pub first_fits : (w : ℕ) (frames later : List (List ℕ)) (f : List ℕ)
    → drop (misfits w frames) frames ≡ f ∷ later → fits w f ≡ true
first_fits w [] later f e = cc
first_fits w (g ∷ frames) later f e =
    first_fits_cons (fits w g) w g frames later f refl (first_fits w frames later f) e

same_frame : (g f : List ℕ) → Some g ≡ Some f → g ≡ f
same_frame g f e = cc

-- the oldest frame behind those that were skipped
pub behind : (frames : List (List ℕ)) (f : List ℕ) → slice_get frames 0 ≡ Some f → frames ≡ f ∷ drop 1 frames
behind [] f e = cc
behind (g ∷ frames) f e = ap (λ (x : List ℕ). x ∷ frames) (same_frame g f e)

pub front_fits : (w : ℕ) (frames skipped : List (List ℕ)) (k : ℕ) (front back : List ℕ) → k ≡ misfits w frames
    → skipped ≡ drop k frames → Some (front ++ back) ≡ slice_get skipped 0
    → 12 + length front + length back ≤ w
front_fits w frames skipped k front back m s e =
    let b = behind skipped (front ++ back) (sym e) in
    let first = first_fits w frames (drop 1 skipped) (front ++ back)
    (ap (λ n. drop n frames) (sym m) ∙ sym s ∙ b) in
    let le = leb-true (12 + length (front ++ back)) w first in
    let a = length-append front back in
    omega (arith, le, a)

-- and there is one
none_at : (l : List (List ℕ)) → None ≡ slice_get l 0 → 0 < length l → ⊥
none_at [] e lt = omega (arith, lt)
none_at (f ∷ l) e lt = cc

pub front_is_some : (frames skipped : List (List ℕ)) (k : ℕ) → k < length frames → skipped ≡ drop k frames
    → None ≡ slice_get skipped 0 → ⊥
front_is_some frames skipped k lt s e =
    none_at (drop k frames) (e ∙ ap (λ (l : List (List ℕ)). slice_get l 0) s)
    (let d = length-drop k frames in omega (arith, d, lt))

-- frames are taken away, one after another
pub skip_on : (frames : List (List ℕ)) (begun : List ℕ) (limits : Limits) (count left : ℕ) (store popped : Store)
    → 0 < left → left ≤ count
    → store ≡ record { frames = drop (count - left) frames; begun = begun; limits = limits }
    → popped ≡ record store { frames = drop 1 store.frames }
    → popped ≡ record { frames = drop (count - (left - 1)) frames; begun = begun; limits = limits }
skip_on frames begun limits count left store popped some le at next =
    let k : (count - left) + 1 ≡ count - (left - 1) = omega (arith, some, le) in
    next ∙ ap (λ (s : Store). record s { frames = drop 1 s.frames }) at
    ∙ ap (λ (fs : List (List ℕ)). record { frames = fs; begun = begun; limits = limits })
    (drop-drop 1 (count - left) frames ∙ ap (λ n. drop n frames) k)
