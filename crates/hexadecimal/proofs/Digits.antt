-- Digits, and numbers spelled by them.
use Rattle.std.proofs.Common.{◌≡◌, ℕ, ◌+◌, ◌-◌, ◌<◌, ◌≤◌, Bool, true, eqb, ◌⊎◌, refl, ap, ◌∙◌, arith, inl, inr}
use Rattle.std.proofs.lemmas.Bool.{agree_below_at, eqb-true, cases_lt}
use Rattle.hexadecimal.specs.Spelling.{digit}

-- ---- one digit

abbrev is_low : ℕ → Bool
unfolding digit
is_low d = eqb (digit d) (48 + d)

abbrev is_high : ℕ → Bool
unfolding digit
is_high d = eqb (digit (10 + d)) (97 + d)

-- the digits below ten are `0` to `9`
pub digit_low : (d : ℕ) → d < 10 → digit d ≡ 48 + d
unfolding digit
digit_low d lt = eqb-true _ _ (agree_below_at is_low (λ _. true) 10 d refl lt)

high_digit : (d : ℕ) → d < 6 → digit (10 + d) ≡ 97 + d
unfolding digit
high_digit d lt = eqb-true _ _ (agree_below_at is_high (λ _. true) 6 d refl lt)

-- the digits from ten on are `a` to `f`
pub digit_high : (d : ℕ) → 10 ≤ d → d < 16 → digit d ≡ 87 + d
digit_high d le lt =
    let e : d ≡ 10 + (d - 10) = omega arith in
    let h = high_digit (d - 10) (omega arith) in
    ap digit e ∙ h ∙ omega arith

-- where a digit stands among the bytes
pub digit_cases : (d : ℕ) → d < 16 → ((d < 10) × (digit d ≡ 48 + d)) ⊎ ((10 ≤ d) × (digit d ≡ 87 + d))
digit_cases d lt =
    elim (cases_lt d 10) [
      | inl low ↦ inl (low, digit_low d low)
      | inr high ↦ inr (high, digit_high d high lt)
    ]

-- a digit is one number's
pub same_digit : (a b : ℕ) → a < 16 → b < 16 → digit a ≡ digit b → a ≡ b
same_digit a b la lb e =
    elim (digit_cases a la) [
      | inl x ↦ elim (digit_cases b lb) [ inl y ↦ omega (arith, x, y) | inr y ↦ omega (arith, x, y) ]
      | inr x ↦ elim (digit_cases b lb) [ inl y ↦ omega (arith, x, y) | inr y ↦ omega (arith, x, y) ]
    ]

-- a digit is a letter or a figure, so no sign that cuts a text
pub digit_above : (d : ℕ) → d < 16 → 48 ≤ digit d
digit_above d lt = elim (digit_cases d lt) [ inl x ↦ omega (arith, x) | inr x ↦ omega (arith, x) ]

-- it is a byte
pub digit_small : (d : ℕ) → d < 16 → digit d < 256
digit_small d lt = elim (digit_cases d lt) [ inl x ↦ omega (arith, x) | inr x ↦ omega (arith, x) ]
