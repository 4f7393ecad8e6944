-- Numbers spelled by digits: what their spelling looks like, and how it grows by one digit.
use Rattle.std.proofs.Common.{◌≡◌, ℕ, zero, suc, ◌+◌, ◌-◌, ◌*◌, ◌/◌, ◌%◌, ◌^◌, ◌<◌, ◌≤◌, List, [], ◌∷◌, ◌++◌, length, get_or, take, map, refl, sym, ap, subst, ◌∙◌, arith, inl, inr, add-one}
use Rattle.std.proofs.lemmas.Bool.{cases_eq, cases_lt}
use Rattle.std.proofs.lemmas.List.{map-append, length-map, take_more, get_or-map, length-append, get_or-take, same_from_push, take_all}
use Rattle.std.proofs.lemmas.Int.Digits.{digits_of_step, length-digits_of-le, all_below_base_digits_of, first_digits_of, same_from_digits_of, length-digits_of_step}
use Rattle.std.specs.Int.Digits.{digits_of, AllBelowBase}
use Rattle.std.specs.List.{AllByRecursion}
use Rattle.std.specs.Prelude.{Option, Result, Ok, Err, IfNone}
use Rattle.std.specs.Result.{OkIff, result_ok}
use Rattle.std.proofs.Math.Nat.{pow-le-pow_right}
use Rattle.hexadecimal.specs.Spelling.{digit, num, fixed}
use Rattle.hexadecimal.specs.Fields.{IsDigit, IsFixed, IsNum}
use Rattle.hexadecimal.proofs.Digits.{same_digit}

abbrev pub AreDigits : List ℕ → Type 0
AreDigits = AllByRecursion IsDigit

pub digit_at : (xs : List ℕ) (i : ℕ) → AreDigits xs → i < length xs → IsDigit (get_or xs i 0)
digit_at [] i h lt = absurd (omega arith)
digit_at (x ∷ xs) zero h lt = h.0
digit_at (x ∷ xs) (suc i) h lt = digit_at xs i h.1 (omega arith)

pub are_digits_append : (xs ys : List ℕ) → AreDigits xs → AreDigits ys → AreDigits (xs ++ ys)
are_digits_append [] ys hx hy = hy
are_digits_append (x ∷ xs) ys hx hy = (hx.0, are_digits_append xs ys hx.1 hy)

are_digits_map : (ds : List ℕ) → AllBelowBase 16 ds → AreDigits (map digit ds)
are_digits_map [] h = tt
are_digits_map (d ∷ ds) h = (record { value = d; small = h.0; is = refl }, are_digits_map ds h.1)

-- ---- numbers without leading zeros

zero_text : num 0 ≡ digit 0 ∷ []
unfolding num digit
zero_text = refl

num_above : (n : ℕ) → 0 < n → num n ≡ map digit (digits_of 16 n)
unfolding num
num_above zero h = absurd (omega arith)
num_above (suc n) h = refl

pub are_digits_num : (n : ℕ) → AreDigits (num n)
are_digits_num n =
    elim (cases_eq n 0) [
      | inl e ↦ rw (e, zero_text) (record { value = 0; small = omega arith; is = refl }, tt)
      | inr ne ↦ rw (num_above n (omega arith))
          (are_digits_map (digits_of 16 n) (all_below_base_digits_of 16 n (omega arith)))
    ]

-- one digit more
pub num_push : (n d : ℕ) → 0 < n → d < 16 → num (n * 16 + d) ≡ num n ++ digit d ∷ []
num_push n d pos lt =
    let quotient : (n * 16 + d) / 16 ≡ n = omega arith in
    let rest : (n * 16 + d) % 16 ≡ d = omega arith in
    let step = digits_of_step 16 (n * 16 + d) (omega arith) (omega arith) in
    num_above (n * 16 + d) (omega arith) ∙ ap (map digit) (rw (quotient, rest) at step)
    ∙ map-append digit (digits_of 16 n) (d ∷ [])
    ∙ ap (λ (xs : List ℕ). xs ++ digit d ∷ []) (sym (num_above n pos))

-- a number, by its last digit and those before it
pub num_split : (n : ℕ) → 16 ≤ n → num n ≡ num (n / 16) ++ digit (n % 16) ∷ []
num_split n le =
    let whole : n ≡ n / 16 * 16 + n % 16 = omega arith in
    ap num whole ∙ num_push (n / 16) (n % 16) (omega arith) (omega arith)

pub num_digit : (d : ℕ) → d < 16 → num d ≡ digit d ∷ []
num_digit d lt =
    elim (cases_eq d 0) [
      | inl e ↦ rw e zero_text
      | inr ne ↦
          let quotient : d / 16 ≡ 0 = omega arith in
          let rest : d % 16 ≡ d = omega arith in
          let step = digits_of_step 16 d (omega arith) (omega arith) in
          num_above d (omega arith) ∙ ap (map digit) (rw (quotient, rest) at step)
    ]

pub length_num : (k n : ℕ) → 0 < k → n < 16 ^ k → length (num n) ≤ k
length_num k n pos lt =
    elim (cases_eq n 0) [
      | inl e ↦ rw (e, zero_text) (omega arith)
      | inr ne ↦ rw (num_above n (omega arith), length-map) (length-digits_of-le 16 k n (omega arith) lt)
    ]

pub length_num_above : (n : ℕ) → 0 < length (num n)
length_num_above n =
    elim (cases_eq n 0) [
      | inl e ↦ rw (e, zero_text) (omega arith)
      | inr ne ↦
          rw (num_above n (omega arith), length-map)
          (omega (arith, length-digits_of_step 16 n (omega arith) (omega arith)))
    ]

first_below : (ds : List ℕ) → AllBelowBase 16 ds → 0 < length ds → get_or ds 0 0 < 16
first_below [] h lt = absurd (omega arith)
first_below (d ∷ ds) h lt = h.0

-- a number that begins with the digit 0 is 0
pub leading_zero : (n : ℕ) → get_or (num n) 0 0 ≡ digit 0 → n ≡ 0
leading_zero n e =
    elim (cases_eq n 0) [
      | inl z ↦ z
      | inr ne ↦
          let long : 0 < length (digits_of 16 n) =
          omega (arith, length-digits_of_step 16 n (omega arith) (omega arith)) in
          let first = first_digits_of 16 n (omega arith) (omega arith) in
          let at = get_or-map digit (digits_of 16 n) 0 0 0 long in
          let small = first_below (digits_of 16 n) (all_below_base_digits_of 16 n (omega arith)) long in
          let nothing = same_digit (get_or (digits_of 16 n) 0 0) 0 small (omega arith) (sym at
          ∙ ap (λ (xs : List ℕ). get_or xs 0 0) (sym (num_above n (omega arith))) ∙ e) in
          absurd (omega arith)
    ]

same_map : (xs ys : List ℕ) → AllBelowBase 16 xs → AllBelowBase 16 ys → map digit xs ≡ map digit ys → xs ≡ ys
same_map [] [] hx hy e = refl
same_map [] (y ∷ ys) hx hy e = absurd cc
same_map (x ∷ xs) [] hx hy e = absurd cc
same_map (x ∷ xs) (y ∷ ys) hx hy e =
    let a = same_digit x y hx.0 hy.0 cc in
    let b = same_map xs ys hx.1 hy.1 cc in
    cc

-- a spelling is one number's
pub same_num : (m n : ℕ) → num m ≡ num n → m ≡ n
same_num m n e =
    elim (cases_eq m 0) [
      | inl z ↦ z ∙ sym (leading_zero n (ap (λ (xs : List ℕ). get_or xs 0 0) (sym e ∙ ap num z ∙ zero_text)))
      | inr ne ↦
          elim (cases_eq n 0) [
            | inl z ↦ leading_zero m (ap (λ (xs : List ℕ). get_or xs 0 0) (e ∙ ap num z ∙ zero_text)) ∙ sym z
            | inr nn ↦
                same_from_digits_of 16 m n (omega arith)
                (same_map (digits_of 16 m) (digits_of 16 n) (all_below_base_digits_of 16 m (omega arith))
                (all_below_base_digits_of 16 n (omega arith))
                (sym (num_above m (omega arith)) ∙ e ∙ num_above n (omega arith)))
          ]
    ]

-- ---- numbers by a fixed number of digits

pub length_fixed : (k n : ℕ) → length (fixed k n) ≡ k
unfolding fixed
length_fixed zero n = refl
length_fixed (suc k) n = omega (
  arith,
  length-append (fixed k (n / 16)) (digit (n % 16) ∷ []),
  length_fixed k (n / 16),
)

pub are_digits_fixed : (k n : ℕ) → AreDigits (fixed k n)
unfolding fixed
are_digits_fixed zero n = tt
are_digits_fixed (suc k) n =
    are_digits_append (fixed k (n / 16)) (digit (n % 16) ∷ []) (are_digits_fixed k (n / 16))
    (record { value = n % 16; small = omega arith; is = refl }, tt)

pub fixed_push : (k n d : ℕ) → d < 16 → fixed (k + 1) (n * 16 + d) ≡ fixed k n ++ digit d ∷ []
unfolding fixed
fixed_push k n d lt =
    let quotient : (n * 16 + d) / 16 ≡ n = omega arith in
    let rest : (n * 16 + d) % 16 ≡ d = omega arith in
    rw (add-one, quotient, rest) refl

-- the same of a fixed number of digits
pub fixed_split : (k n : ℕ) → 0 < k → fixed k n ≡ fixed (k - 1) (n / 16) ++ digit (n % 16) ∷ []
unfolding fixed
fixed_split zero n h = absurd (omega arith)
fixed_split (suc k) n h =
    ap (λ (j : ℕ). fixed j (n / 16) ++ digit (n % 16) ∷ []) (let e : k ≡ suc k - 1 = omega arith in e)

pub fixed_none : (n : ℕ) → fixed 0 n ≡ []
unfolding fixed
fixed_none n = refl

pub same_fixed : (k m n : ℕ) → m < 16 ^ k → n < 16 ^ k → fixed k m ≡ fixed k n → m ≡ n
unfolding fixed
same_fixed zero m n lm ln e = omega arith
same_fixed (suc k) m n lm ln e =
    let both = same_from_push (fixed k (m / 16)) (fixed k (n / 16)) (digit (m % 16)) (digit (n % 16)) e in
    let high = same_fixed k (m / 16) (n / 16) (omega arith) (omega arith) both.0 in
    let low = same_digit (m % 16) (n % 16) (omega arith) (omega arith) both.1 in
    omega arith

-- ---- reading, digit by digit

-- before one more digit a number of 64 bits has room for it
pub room : (field : List ℕ) (i n most : ℕ) → n < 16 ^ i → i < most → n * 16 + 15 < 16 ^ most
room field i n most lt less =
    let pos : 0 < 16 = omega arith in
    let within : i + 1 ≤ most = omega arith in
    let more = pow-le-pow_right pos within in
    let step : n * 16 + 15 < 16 ^ (i + 1) = rw add-one (omega arith) in omega arith

-- n is what the first i bytes of the field say
pub record Reads (field : List ℕ) (i n : ℕ) : Type 0 where
  pub start : i ≡ 0 → n ≡ 0
  pub spelled : 0 < i → take i field ≡ num n
  pub below : n < 16 ^ i

pub reads_more : (field : List ℕ) (i n d c : ℕ) → Reads field i n → i < length field → c ≡ get_or field i 0
    → d < 16 → digit d ≡ c → (0 < i → 0 < n) → Reads field (i + 1) (n * 16 + d)
reads_more field i n d c r lt is small e pos =
    let more : take (i + 1) field ≡ take i field ++ digit d ∷ [] = take_more field i 0 lt
    ∙ ap (λ (x : ℕ). take i field ++ x ∷ []) (sym is ∙ sym e) in
    record {
      start = λ h. absurd (omega arith);
      spelled = λ _.
          elim (cases_eq i 0) [
            | inl z ↦
                let zn = r.start z in
                let one : n * 16 + d ≡ d = omega arith in
                more ∙ ap (λ (k : ℕ). take k field ++ digit d ∷ []) z ∙ sym (ap num one ∙ num_digit d small)
            | inr ne ↦ more ∙ ap (λ (xs : List ℕ). xs ++ digit d ∷ []) (r.spelled (omega arith))
                ∙ sym (num_push n d (pos (omega arith)) small)
          ];
      below = let b = r.below in rw add-one (omega arith);
    }

pub record ReadsFixed (field : List ℕ) (i n : ℕ) : Type 0 where
  pub spelled : take i field ≡ fixed i n
  pub below : n < 16 ^ i

pub reads_fixed_more : (field : List ℕ) (i n d c : ℕ) → ReadsFixed field i n → i < length field
    → c ≡ get_or field i 0 → d < 16 → digit d ≡ c → ReadsFixed field (i + 1) (n * 16 + d)
reads_fixed_more field i n d c r lt is small e =
    record {
      spelled = take_more field i 0 lt ∙ ap (λ (x : ℕ). take i field ++ x ∷ []) (sym is ∙ sym e)
          ∙ ap (λ (xs : List ℕ). xs ++ digit d ∷ []) r.spelled ∙ sym (fixed_push i n d small);
      below = let b = r.below in rw add-one (omega arith);
    }

-- each byte of a field of so many digits is one
pub digit_in_fixed : (field : List ℕ) (k n i : ℕ) → field ≡ fixed k n → i < length field
    → IsDigit (get_or field i 0)
digit_in_fixed field k n i e lt = digit_at field i (subst AreDigits (sym e) (are_digits_fixed k n)) lt

-- what all bytes of a field say is the number that it spells
pub one_fixed : (field : List ℕ) (i m k n : ℕ) → ReadsFixed field i m → length field ≤ i → IsFixed k field n
    → m ≡ n
one_fixed field i m k n r whole h =
    let all : fixed i m ≡ fixed k n = sym r.spelled ∙ take_all i field whole ∙ h.spelled in
    let long : i ≡ k = sym (length_fixed i m) ∙ ap length all ∙ length_fixed k n in
    same_fixed k m n (subst (λ (j : ℕ). m < 16 ^ j) long r.below) h.fits
    (ap (λ (j : ℕ). fixed j m) (sym long) ∙ all)

-- ---- what no number spells

pub no_number_long : (field : List ℕ) (k : ℕ) → 0 < k → k < length field → (n : ℕ) → n < 16 ^ k
    → field ≡ num n → ⊥
no_number_long field k pos long n lt e = omega (arith, length_num k n pos lt, ap length e)

pub no_number_empty : (field : List ℕ) → length field ≡ 0 → (n : ℕ) → field ≡ num n → ⊥
no_number_empty field none n e = omega (arith, length_num_above n, ap length e)

-- a byte that isn't a digit stands in no number
pub no_digit : (field xs : List ℕ) (i c : ℕ) → AreDigits xs → i < length field → c ≡ get_or field i 0
    → ((d : ℕ) → d < 16 → digit d ≡ c → ⊥) → field ≡ xs → ⊥
no_digit field xs i c all lt is differs e =
    let d = digit_at xs i all (omega (arith, ap length e)) in
    differs d.value d.small (sym d.is ∙ ap (λ (ys : List ℕ). get_or ys i 0) (sym e) ∙ sym is)

-- nothing follows a leading zero
pub no_number_zero : (field : List ℕ) (i n m : ℕ) → Reads field i n → n ≡ 0 → 0 < i → i < length field
    → field ≡ num m → ⊥
no_number_zero field i n m r z pos lt e =
    let front : take i field ≡ digit 0 ∷ [] = r.spelled pos ∙ ap num z ∙ zero_text in
    let first : get_or field 0 0 ≡ digit 0 = sym (get_or-take i field 0 0 pos)
    ∙ ap (λ (xs : List ℕ). get_or xs 0 0) front in
    let nothing = leading_zero m (ap (λ (xs : List ℕ). get_or xs 0 0) (sym e) ∙ first) in
    let one : field ≡ digit 0 ∷ [] = e ∙ ap num nothing ∙ zero_text in
    let length-is = ap length one in
    omega arith

-- a field that spells a wider number spells no narrower one
no_narrower : (field : List ℕ) (bits limit n : ℕ) → 2 ^ bits ≡ limit → limit ≤ n → IsNum 64 field n → (m : ℕ)
    → IsNum bits field m → ⊥
no_narrower field bits limit n lim le h m k =
    let same = same_num m n (sym k.spelled ∙ h.spelled) in
    let small = k.fits in
    omega arith

-- a number above the bits is none of so many
pub none_narrower : {E : Type 0} (field : List ℕ) (bits limit n : ℕ) (r : Result ℕ E) (found : Option ℕ)
    → 2 ^ bits ≡ limit → IsNum 64 field n → OkIff r (n < limit) n → found ≡ result_ok r
    → IfNone found (¬ ((m : ℕ) × IsNum bits field m))
none_narrower field bits limit n (Ok x) found lim is fits e = rw e tt
none_narrower field bits limit n (Err x) found lim is fits e =
    rw e (λ h. elim (cases_lt n limit) [
      | inl lt ↦ fits lt
      | inr le ↦ no_narrower field bits limit n
          lim le is h.0 h.1
    ])
