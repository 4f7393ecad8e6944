-- One step of a loop over bytes and their pairs of digits.
use Rattle.std.proofs.Common.{◌≡◌, inl, inr, ℕ, zero, suc, ◌+◌, ◌*◌, ◌/◌, ◌%◌, ◌^◌, ◌<◌, ◌≤◌, List, [], ◌∷◌, ◌++◌, length, get_or, slice_set, take, All, subst, refl, ap, ◌∙◌, arith}
use Rattle.std.proofs.lemmas.List.{append_assoc, take_all, take_more, take_more_set}
use Rattle.std.proofs.lemmas.List.Elements.{All-nil, All-push}
use Rattle.std.specs.Int.{from_le_bytes, w16}
use Rattle.std.specs.Simd.{first_chunks}
use Rattle.hex.specs.Hex.{encode_lower, encode_with}
use Rattle.hexadecimal.specs.Spelling.{digit}
use Rattle.hexadecimal.specs.Fields.{IsDigit}
use Rattle.hexadecimal.proofs.Digits.{digit_cases}
use Rattle.hexadecimal.proofs.ByteFields.{encode_append}

-- the two digits of a byte
pub one_byte : (v : ℕ) → encode_lower (v ∷ []) ≡ digit (v / 16) ∷ digit (v % 16) ∷ []
unfolding digit encode_with
one_byte v = refl

-- two elements more
two_more : (xs : List ℕ) (i : ℕ) → 2 * i + 1 < length xs → take (2 * (i + 1)) xs ≡ take (2 * i) xs
    ++ get_or xs (2 * i) 0 ∷ get_or xs (2 * i + 1) 0 ∷ []
two_more xs i lt =
    let two : 2 * (i + 1) ≡ 2 * i + 1 + 1 = omega arith in
    let second = take_more xs (2 * i + 1) 0 lt in
    let first = take_more xs (2 * i) 0 (omega arith) in
    rw (two, second, first) (append_assoc (take (2 * i) xs) (get_or xs (2 * i) 0 ∷ [])
    (get_or xs (2 * i + 1) 0 ∷ []))

-- the i-th of the pairs that a list falls into
pub pair_at : (k : ℕ) (xs : List ℕ) (i : ℕ) (d : List ℕ) → i < k → 2 * k ≤ length xs
    → get_or (first_chunks 2 k xs) i d ≡ get_or xs (2 * i) 0 ∷ get_or xs (2 * i + 1) 0 ∷ []
pair_at zero xs i d lt le = absurd (omega arith)
pair_at (suc k) [] i d lt le = absurd (omega arith)
pair_at (suc k) (x ∷ []) i d lt le = absurd (omega arith)
pair_at (suc k) (x ∷ y ∷ xs) zero d lt le = refl
pair_at (suc k) (x ∷ y ∷ xs) (suc i) d lt le =
    let first : 2 * suc i ≡ suc (suc (2 * i)) = omega arith in
    let second : suc (suc (2 * i)) + 1 ≡ suc (suc (2 * i + 1)) = omega arith in
    rw first (rw second (pair_at k xs i d (omega arith) (omega arith)))

-- a pair as one number
pair_number : (a b : ℕ) → from_le_bytes w16 (a ∷ b ∷ []) ≡ a + 256 * b
pair_number a b = omega arith

-- a digit is below 256, as each byte
digit_fits : (c : ℕ) → IsDigit c → c < 256
digit_fits c h =
    let is = h.is in
    let small = h.small in
    elim (digit_cases h.value h.small) [ inl x ↦ omega (arith, x, is) | inr x ↦ omega (arith, x, is, small) ]

-- the two halves of the i-th pair of digits
pub record AreHalves (field : List ℕ) (i pair : ℕ) : Type 0 where
  pub low : pair % 256 ≡ get_or field (2 * i) 0
  pub high : pair / 256 ≡ get_or field (2 * i + 1) 0

pub halves : (field : List ℕ) (pairs : List (List ℕ)) (i pair : ℕ) (d : List ℕ) → 2 * i + 1 < length field
    → All IsDigit field → pairs ≡ first_chunks 2 (length field / 2) field
    → pair ≡ from_le_bytes w16 (get_or pairs i d) → AreHalves field i pair
halves field pairs i pair d fits digits cut is =
    let a = digit_fits (get_or field (2 * i) 0) (digits (2 * i) 0 (omega arith)) in
    let b = digit_fits (get_or field (2 * i + 1) 0) (digits (2 * i + 1) 0 fits) in
    let here : get_or pairs i d ≡ get_or field (2 * i) 0 ∷ get_or field (2 * i + 1) 0 ∷ [] =
    rw cut (pair_at (length field / 2) field i d (omega arith) (omega arith)) in
    let whole = is ∙ ap (from_le_bytes w16) here
    ∙ pair_number (get_or field (2 * i) 0) (get_or field (2 * i + 1) 0) in
    record { low = omega (arith, a, whole); high = omega (arith, a, b, whole) }

-- the first i bytes are those of as many pairs of digits
pub record AreRead (field out : List ℕ) (i : ℕ) : Type 0 where
  pub spelled : encode_lower (take i out) ≡ take (2 * i) field
  pub fits : All (λ b. b < 2 ^ 8) (take i out)

-- none is read yet
pub read_none : (field out : List ℕ) → AreRead field out 0
unfolding encode_with
read_none field out = record { spelled = refl; fits = All-nil (λ b. b < 2 ^ 8) }

-- one byte more is read
pub read_step : (field out : List ℕ) (i v : ℕ) → 2 * i + 1 < length field → i < length out → v < 2 ^ 8
    → digit (v / 16) ≡ get_or field (2 * i) 0 → digit (v % 16) ≡ get_or field (2 * i + 1) 0
    → AreRead field out i → AreRead field (slice_set out i v) (i + 1)
read_step field out i v fits room small high low so_far =
    let put = take_more_set out i v room in
    record {
      spelled =
          ap encode_lower put
          ∙ encode_append (take i out) (v ∷ [])
          ∙ rw (one_byte v, high, low, so_far.spelled, two_more field i fits) refl;
      fits = rw put (All-push (λ b. b < 2 ^ 8) (take i out) v so_far.fits small);
    }

-- all bytes are read
pub read_spelled : (field out : List ℕ) (i : ℕ) → length out ≤ i → length field ≤ 2 * i → AreRead field out i
    → encode_lower out ≡ field
read_spelled field out i all whole so_far = let e = so_far.spelled in
    rw (take_all i out all, take_all (2 * i) field whole) at e

pub read_fits : (field out : List ℕ) (i : ℕ) → length out ≤ i → AreRead field out i → All (λ b. b < 2 ^ 8) out
read_fits field out i all so_far = subst (All (λ b. b < 2 ^ 8)) (take_all i out all) so_far.fits
