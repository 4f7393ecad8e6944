-- Two numbers with a sign between them, and pieces that a sign joins.
use Rattle.std.proofs.Common.{◌≡◌, ℕ, ◌^◌, ◌<◌, List, [], ◌∷◌, ◌++◌, Option, None, Some, length, get_or, drop, refl, sym, ap, subst, ◌∙◌, arith, inl, inr}
use Rattle.std.specs.List.{AllByRecursion, join_with_byte}
use Rattle.std.proofs.lemmas.Bool.{ne_eqb}
use Rattle.std.proofs.lemmas.List.Splits.{join_with_byte-slice_split, length-slice_split}
use Rattle.hexadecimal.specs.Fields.{IsNum, SpellsNumber}
use Rattle.hexadecimal.specs.Spelling.{digit, num}
use Rattle.hexadecimal.proofs.Digits.{digit_above, digit_cases}
use Rattle.hexadecimal.proofs.Numbers.{AreDigits, are_digits_num, same_num}
use Rattle.trace.specs.Cuts.{parts, parts_left}
use Rattle.trace.proofs.Cutting.{is_byte}
use Rattle.trace.proofs.Signs.{Free, split_join}

-- ---- signs

-- a byte that is no digit
abbrev pub IsNoDigit : ℕ → Type 0
IsNoDigit sign = (d : ℕ) → d < 16 → digit d ≡ sign → ⊥

pub low_sign : (sign : ℕ) → sign < 48 → IsNoDigit sign
low_sign sign low d lt is = let above = digit_above d lt in omega arith

pub colon : IsNoDigit 58
colon d lt is = elim (digit_cases d lt) [ inl x ↦ omega (arith, x) | inr x ↦ omega (arith, x) ]

free_digits : (sign : ℕ) (xs : List ℕ) → IsNoDigit sign → AreDigits xs → Free sign xs
free_digits sign [] none h = tt
free_digits sign (x ∷ xs) none h =
    let first = h.0 in
    (ne_eqb x sign (λ e. none first.value first.small (sym first.is ∙ e)), free_digits sign xs none h.1)

pub free_num : (sign n : ℕ) → IsNoDigit sign → Free sign (num n)
free_num sign n none = free_digits sign (num n) none (are_digits_num n)

-- ---- parts

-- pieces that are joined by a sign are parts again
pub parts_joined : (sign : ℕ) (f : List ℕ) (fs : List (List ℕ)) → AllByRecursion (Free sign) (f ∷ fs)
    → parts sign (join_with_byte sign (f ∷ fs)) ≡ f ∷ fs
unfolding parts
parts_joined sign f fs h = split_join sign f fs h

pub joined_parts : (sign : ℕ) (bs : List ℕ) → join_with_byte sign (parts sign bs) ≡ bs
unfolding parts
joined_parts sign bs = join_with_byte-slice_split sign bs

pub some_parts : (sign : ℕ) (bs : List ℕ) → 0 < length (parts sign bs)
unfolding parts
some_parts sign bs = omega (arith, length-slice_split (is_byte sign) bs)

join_first : (sign : ℕ) (f : List ℕ) (fs : List (List ℕ)) → 0 < length fs → join_with_byte sign (f ∷ fs) ≡ f
    ++ sign ∷ join_with_byte sign fs
join_first sign f [] some = absurd (omega (arith, some))
join_first sign f (g ∷ fs) some = refl

-- ---- two numbers

abbrev pub pair : ℕ → ℕ → ℕ → List ℕ
pair sign m n = num m ++ sign ∷ num n

pub pair_parts : (sign m n : ℕ) → IsNoDigit sign → parts sign (pair sign m n) ≡ num m ∷ num n ∷ []
pair_parts sign m n none =
    parts_joined sign (num m) (num n ∷ []) (free_num sign m none, (free_num sign n none, tt))

-- a text is one pair's
pub same_pair : (sign m n p q : ℕ) → IsNoDigit sign → pair sign m n ≡ pair sign p q → (m ≡ p) × (n ≡ q)
same_pair sign m n p q none e =
    let both : num m ∷ num n ∷ [] ≡ num p ∷ num q ∷ [] =
    sym (pair_parts sign m n none) ∙ ap (parts sign) e ∙ pair_parts sign p q none in (
      same_num m p (ap (λ (xs : List (List ℕ)). get_or xs 0 []) both),
      same_num n q (ap (λ (xs : List (List ℕ)). get_or xs 1 []) both),
    )

module _ (sign bits : ℕ) (none : IsNoDigit sign) (part first : List ℕ) (rest : Option (List ℕ))
    (cut : parts sign part ≡ first ∷ parts_left sign rest) where
  two : (m n : ℕ) → part ≡ pair sign m n → first ∷ parts_left sign rest ≡ num m ∷ num n ∷ []
  two m n is = sym cut ∙ ap (parts sign) is ∙ pair_parts sign m n none

  pub no_first : ¬ SpellsNumber bits first → (m n : ℕ) → m < 2 ^ bits → part ≡ pair sign m n → ⊥
  no_first bad m n fits is =
      bad (m, record { fits = fits; spelled = ap (λ (xs : List (List ℕ)). get_or xs 0 []) (two m n is) })

  pub no_second : rest ≡ None → (m n : ℕ) → part ≡ pair sign m n → ⊥
  no_second missing m n is =
      let count : length (first ∷ parts_left sign rest) ≡ 2 = ap length (two m n is) in
      absurd (omega (
        arith,
        subst (λ (r : Option (List ℕ)). length (first ∷ parts_left sign r) ≡ 2) missing count,
      ))

  pub bad_second : (second : List ℕ) → rest ≡ Some second → ¬ SpellsNumber bits second → (m n : ℕ)
      → n < 2 ^ bits → part ≡ pair sign m n → ⊥
  bad_second second some bad m n fits is =
      let left : parts sign second ≡ num n ∷ [] =
      subst (λ (r : Option (List ℕ)). parts_left sign r ≡ num n ∷ []) some
      (ap (λ (xs : List (List ℕ)). drop 1 xs) (two m n is)) in
      bad (
        n,
        record {
          fits = fits;
          spelled = sym (joined_parts sign second) ∙ ap (join_with_byte sign) left;
        },
      )

  pub pair_read : (m n : ℕ) (second : List ℕ) → rest ≡ Some second → IsNum bits first m → IsNum bits second n
      → part ≡ pair sign m n
  pair_read m n second some one other =
      let two_parts : parts sign part ≡ first ∷ parts sign second =
      subst (λ (r : Option (List ℕ)). parts sign part ≡ first ∷ parts_left sign r) some cut in
      sym (joined_parts sign part) ∙ ap (join_with_byte sign) two_parts
      ∙ join_first sign first (parts sign second) (some_parts sign second)
      ∙ ap (λ (xs : List ℕ). first ++ sign ∷ xs) (joined_parts sign second)
      ∙ ap (λ (xs : List ℕ). xs ++ sign ∷ second) one.spelled
      ∙ ap (λ (xs : List ℕ). num m ++ sign ∷ xs) other.spelled
