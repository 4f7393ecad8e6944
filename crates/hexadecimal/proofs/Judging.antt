-- Whether bytes are digits, judged without a branch.
use Rattle.std.proofs.Common.{◌≡◌, ℕ, ◌+◌, ◌-◌, ◌<◌, ◌≤◌, ◌%◌, ◌^◌, ◌⊎◌, nat_eq, Bool, true, ◌&&◌, List, All, IsTrue, ◌↔◌, inl, inr, length, get_or, take, drop, refl, sym, subst, arith, length-take}
use Rattle.std.proofs.Math.Seq.{take-add, take-take}
use Rattle.std.proofs.lemmas.Bool.{and_parts}
use Rattle.std.proofs.lemmas.Bool.Decides.{nat_tests}
use Rattle.std.proofs.lemmas.List.{get_or-take}
use Rattle.std.proofs.lemmas.List.Elements.{All-append, All-more, All-take}
use Rattle.hexadecimal.specs.Fields.{IsDigit}
use Rattle.hexadecimal.proofs.Digits.{digit_cases, digit_high, digit_low}

-- the test for a digit: how far the byte is past the figures, and past the letters, where what is below them is far past
pub past_tells : (c figures letters lower : ℕ) → c < 2 ^ 8 → figures ≡ (c + 208) % 2 ^ 8 - 9
    → letters ≡ (c + 159) % 2 ^ 8 - 5 → ((lower ≡ 0) ↔ ((figures ≡ 0) ⊎ (letters ≡ 0)))
    → IsTrue (nat_eq lower 0) ↔ IsDigit c
past_tells c figures letters lower fits past_figures past_letters is = (
  λ yes.
      elim (is.0 (grind (arith, nat_tests, yes))) [
        | inl figure ↦
            let d = digit_low (c - 48) (omega (arith, fits, past_figures, figure)) in
            record { value = c - 48; small = omega (arith, fits, past_figures, figure); is = omega (arith, d, fits, past_figures, figure) }
        | inr letter ↦
            let d = digit_high (c - 87) (omega (arith, fits, past_letters, letter)) (omega (arith, fits, past_letters, letter)) in
            record { value = c - 87; small = omega (arith, fits, past_letters, letter); is = omega (arith, d, fits, past_letters, letter) }
      ],
  λ h.
      let here = h.is in
      let zero : lower ≡ 0 = is.1 (elim (digit_cases h.value h.small) [
        | inl low ↦ inl (omega (arith, past_figures, low.0, low.1, here))
        | inr high ↦ inr (omega (arith, past_letters, high.0, high.1, here))
      ]) in
      rw zero refl,
)

-- one byte more
pub judged_more : (xs : List ℕ) (i : ℕ) (all here : Bool) → i < length xs
    → (IsTrue all ↔ All IsDigit (take i xs)) → (IsTrue here ↔ IsDigit (get_or xs i 0))
    → (IsTrue (all && here) ↔ All IsDigit (take (i + 1) xs))
judged_more xs i all here lt so_far this = (
  λ yes. let parts = and_parts all here yes in All-more IsDigit xs i 0 lt (so_far.0 parts.0) (this.0 parts.1),
  λ h.
      let front = subst (All IsDigit) (take-take i (i + 1) xs (omega arith))
      (All-take IsDigit i (take (i + 1) xs) h) in
      let last = subst IsDigit (get_or-take (i + 1) xs i 0 (omega arith))
      (h i 0 (omega (arith, length-take (i + 1) xs))) in
      rw (so_far.1 front, this.1 last) refl,
)

-- so many digits more
pub digits_more : (xs : List ℕ) (i n : ℕ) → All IsDigit (take i xs) → All IsDigit (take n (drop i xs))
    → All IsDigit (take (i + n) xs)
digits_more xs i n front block =
    subst (All IsDigit) (sym (take-add i n xs))
    (All-append IsDigit (take i xs) (take n (drop i xs)) front block)

-- the bytes before the nth are digits
pub record DigitsBefore (xs : List ℕ) (n : ℕ) : Type 0 where
  pub within : n ≤ length xs
  pub digits : All IsDigit (take n xs)

pub block_more : (xs : List ℕ) (n size : ℕ) (all : Bool) → DigitsBefore xs n
    → n + size ≤ length xs → all ≡ true
    → (IsTrue all ↔ All IsDigit (take (n + size - n) (drop n xs))) → DigitsBefore xs (n + size)
block_more xs n size all before room held test =
    let same : n + size - n ≡ size = omega arith in
    let block = subst (λ (k : ℕ). All IsDigit (take k (drop n xs))) same (test.0 held) in
    record { within = room; digits = digits_more xs n size before.digits block }

pub one_more : (xs : List ℕ) (n : ℕ) (here : Bool) → DigitsBefore xs n → n < length xs → here ≡ true
    → (IsTrue here ↔ IsDigit (get_or xs n 0)) → DigitsBefore xs (n + 1)
one_more xs n here before lt held test =
    record { within = omega arith; digits = All-more IsDigit xs n 0 lt before.digits (test.0 held) }
