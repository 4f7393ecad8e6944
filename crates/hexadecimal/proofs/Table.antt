-- What the tables of digits' values and of bytes' digits have at each byte.
use Rattle.std.proofs.Common.{◌≡◌, ℕ, ◌+◌, ◌*◌, ◌/◌, ◌%◌, ◌<◌, Bool, true, ◌||◌, eqb, leb, get_or, refl, arith, inl, inr}
use Rattle.std.proofs.lemmas.Bool.{agree_below_at, eqb-true, leb-true, or_cases}
use Rattle.hexadecimal.specs.Spelling.{digit}
use Rattle.hexadecimal.specs.declared.digit.TheConstants.{VALUES}
use Rattle.hexadecimal.specs.declared.fixed_digits.TheConstants.{PAIRS}

abbrev is_own : ℕ → Bool
unfolding digit
is_own c = leb 16 (get_or VALUES c 0) || eqb (digit (get_or VALUES c 0)) c

abbrev is_found : ℕ → Bool
unfolding digit
is_found d = eqb (get_or VALUES (digit d) 0) d

-- a value in the table is that of the byte it stands at
pub listed : (c : ℕ) → c < 256 → get_or VALUES c 0 < 16 → digit (get_or VALUES c 0) ≡ c
unfolding digit
listed c below lt =
    elim (or_cases (leb 16 (get_or VALUES c 0)) (eqb (digit (get_or VALUES c 0)) c)
    (agree_below_at is_own (λ _. true) 256 c refl below)) [
      | inl none ↦ absurd (omega (arith, lt, leb-true 16 (get_or VALUES c 0) none))
      | inr own ↦ eqb-true _ _ own
    ]

-- each digit has its value in the table
pub found : (d : ℕ) → d < 16 → get_or VALUES (digit d) 0 ≡ d
unfolding digit
found d lt = eqb-true _ _ (agree_below_at is_found (λ _. true) 16 d refl lt)

abbrev has_first : ℕ → Bool
unfolding digit
has_first b = eqb (get_or PAIRS (2 * b) 0) (digit (b / 16))

abbrev has_second : ℕ → Bool
unfolding digit
has_second b = eqb (get_or PAIRS (2 * b + 1) 0) (digit (b % 16))

-- each byte has its two digits in the table
pub first_listed : (b : ℕ) → b < 256 → get_or PAIRS (2 * b) 0 ≡ digit (b / 16)
unfolding digit
first_listed b lt = eqb-true _ _ (agree_below_at has_first (λ _. true) 256 b refl lt)

pub second_listed : (b : ℕ) → b < 256 → get_or PAIRS (2 * b + 1) 0 ≡ digit (b % 16)
unfolding digit
second_listed b lt = eqb-true _ _ (agree_below_at has_second (λ _. true) 256 b refl lt)
