-- A file of the tests takes a front of what is written to it.
use Rattle.std.proofs.Common.{◌≡◌, ◌≢◌, inl, inr, ℕ, ◌+◌, ◌-◌, ◌≤◌, List, [], ◌∷◌, ◌++◌, length, take, drop, refl, sym, ◌∙◌, ap, subst, arith}
use Rattle.std.proofs.lemmas.Bool.{cases_lt}
use Rattle.std.proofs.lemmas.List.{append_assoc, drop-drop, drop_at, length-append, length-drop, length-take-le, take-append-drop, take-append-le, take-take, take_at}
use Rattle.sector_cache.specs.Backing.{IsPut, with_bytes}
use Rattle.sector_cache.specs.Stop.{DiffersWithin}
use Rattle.sector_cache.proofs.Stops.{differs_none}

-- what stands after a front up to the end of the write, and then the rest
rest_of : (bytes : List ℕ) (at n l : ℕ) → n ≤ l → take (l - n) (drop (at + n) bytes)
    ++ drop (at + l) bytes ≡ drop (at + n) bytes
rest_of bytes at n l within =
    ap (λ k. take (l - n) (drop (at + n) bytes)
    ++ drop k bytes) (let e : at + l ≡ at + n + (l - n) = omega (arith, within) in e)
    ∙ ap (λ rest. take (l - n) (drop (at + n) bytes) ++ rest) (sym (drop-drop (l - n) (at + n) bytes))
    ∙ take-append-drop (l - n) (drop (at + n) bytes)

-- a front that was written is a write that came short
pub put_front : (bytes from : List ℕ) (at n : ℕ) → at + length from ≤ length bytes → n ≤ length from
    → IsPut at from n bytes (with_bytes bytes at (take n from))
put_front bytes from at n inside within =
    let front = take n from in
    let tail = take (length from - n) (drop (at + n) bytes) in
    let front_long : length front ≡ n = length-take-le n from within in
    let tail_long : length tail ≡ length from - n =
    length-take-le (length from - n) (drop (at + n) bytes)
    (omega (arith, length-drop (at + n) bytes, inside, within)) in
    let long : length (front ++ tail) ≡ length from = length-append front tail
    ∙ omega (arith, front_long, tail_long, within) in
    record {
      left = front ++ tail;
      long = long;
      front = take-append-le n front tail (omega (arith, front_long)) ∙ take-take n n from (omega arith);
      put =
          ap (λ k. take at bytes ++ (front ++ drop (at + k) bytes)) front_long
          ∙ ap (λ rest. take at bytes ++ (front ++ rest)) (sym (rest_of bytes at n (length from) within))
          ∙ ap (λ rest. take at bytes ++ rest) (sym (append_assoc front tail (drop (at + length from) bytes)))
          ∙ ap (λ k. take at bytes ++ (front ++ tail ++ drop (at + k) bytes)) (sym long);
    }

-- nor does it touch more than the place that it was to be written to
pub front_within : (bytes front : List ℕ) (at size : ℕ) → at + length front ≤ length bytes
    → length front ≤ size → DiffersWithin at (at + size) bytes (with_bytes bytes at front)
front_within bytes front at size inside within =
    let head = take at bytes in
    let rest = drop (at + length front) bytes in
    let head_long : length head ≡ at = length-take-le at bytes (omega (arith, inside)) in
    record {
      before = take_at head (front ++ rest) at head_long;
      behind =
          sym (drop-drop size at (with_bytes bytes at front))
          ∙ ap (drop size) (drop_at head (front ++ rest) at head_long)
          ∙ ap (λ k. drop k (front ++ rest)) (let e : size ≡ length front + (size - length front) = omega
          (arith, within) in e)
          ∙ sym (drop-drop (size - length front) (length front) (front ++ rest))
          ∙ ap (drop (size - length front)) (drop_at front rest (length front) refl)
          ∙ drop-drop (size - length front) (at + length front) bytes
          ∙ ap (λ k. drop k bytes) (let e : at + length front + (size - length front)
          ≡ at + size = omega (arith, within) in e);
    }

nothing_written : (bytes front : List ℕ) (start : ℕ) → length front ≡ 0 → with_bytes bytes start front ≡ bytes
nothing_written bytes [] start none =
    ap (λ k. take start bytes ++ drop k bytes) (let e : start + 0 ≡ start = omega arith in e)
    ∙ take-append-drop start bytes
nothing_written bytes (x ∷ front) start none = absurd (omega (arith, none))

-- wherever the file found that place
pub found_within : (bytes front : List ℕ) (at start size : ℕ) → start + length front ≤ length bytes
    → length front ≤ size → (at ≢ start → length front ≡ 0)
    → DiffersWithin at (at + size) bytes (with_bytes bytes start front)
found_within bytes front at start size inside within apart =
    elim (cases_lt at start) [
      | inl below ↦ nothing (apart (λ same. omega (arith, below, same)))
      | inr from ↦
          elim (cases_lt start at) [
            | inl above ↦ nothing (apart (λ same. omega (arith, above, same)))
            | inr to ↦
                let same : at ≡ start = omega (arith, from, to) in
                subst (λ k. DiffersWithin at (at + size) bytes (with_bytes bytes k front)) same
                (front_within bytes front at size (omega (arith, same, inside)) within)
          ]
    ]
  where
    nothing : length front ≡ 0 → DiffersWithin at (at + size) bytes (with_bytes bytes start front)
    nothing none = subst (DiffersWithin at (at + size) bytes) (sym (nothing_written bytes front start none))
        (differs_none at (at + size) bytes)

-- and nothing that was written is one of none
pub put_none : (bytes from : List ℕ) (at : ℕ) → at + length from ≤ length bytes → IsPut at from 0 bytes bytes
put_none bytes from at inside =
    let put = put_front bytes from at 0 inside (omega arith) in
    record {
      left = put.left;
      long = put.long;
      front = put.front;
      put = sym (take-append-drop at bytes)
          ∙ ap (λ k. take at bytes ++ drop k bytes) (let e : at ≡ at + 0 = omega arith in e) ∙ put.put;
    }

-- a write where the file's place for it was found
pub wrote : (old new from : List ℕ) (at start n : ℕ) → (at + length from ≤ length old → start ≡ at)
    → n ≤ length from → new ≡ with_bytes old start (take n from) → at + length from ≤ length old
    → IsPut at from n old new
wrote old new from at start n found within is inside =
    subst (IsPut at from n old) (sym (is ∙ ap (λ k. with_bytes old k (take n from)) (found inside)))
    (put_front old from at n inside within)

-- and one that failed
pub failed_to_write : (old new from : List ℕ) (at n : ℕ) → n ≡ 0 → new ≡ old → at + length from ≤ length old
    → IsPut at from n old new
failed_to_write old new from at n none is inside =
    subst (λ k. IsPut at from k old new) (sym none)
    (subst (IsPut at from 0 old) (sym is) (put_none old from at inside))
