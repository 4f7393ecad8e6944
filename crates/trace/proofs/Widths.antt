-- The width of a register access, spelled as a number.
use Rattle.std.proofs.Common.{◌≡◌, ℕ, ◌*◌, ◌^◌, [], ◌∷◌, refl, ap, ◌∙◌, arith, inl, inr}
use Rattle.hexadecimal.specs.Spelling.{num}
use Rattle.hexadecimal.proofs.Digits.{digit_low}
use Rattle.hexadecimal.proofs.Numbers.{num_digit}
use Rattle.trace.specs.Spelling.{width_digit}
use Rattle.trace.specs.Words.{IsWidth}

-- a width is its digit
pub num_width : (width : ℕ) → IsWidth width → num width ≡ width_digit width
num_width width h =
    elim h [
      | inl one ↦ rw one (num_digit 1 (omega arith) ∙ ap (λ c. c ∷ []) (digit_low 1 (omega arith)))
      | inr more ↦
          elim more [
            | inl two ↦ rw two (num_digit 2 (omega arith) ∙ ap (λ c. c ∷ []) (digit_low 2 (omega arith)))
            | inr four ↦ rw four (num_digit 4 (omega arith) ∙ ap (λ c. c ∷ []) (digit_low 4 (omega arith)))
          ]
    ]

-- two digits for each byte of a width
pub digits_bound : (width : ℕ) → IsWidth width → 16 ^ (2 * width) ≡ 2 ^ (8 * width)
digits_bound width h =
    elim h [
      | inl one ↦ rw one refl
      | inr more ↦ elim more [ inl two ↦ rw two refl | inr four ↦ rw four refl ]
    ]
