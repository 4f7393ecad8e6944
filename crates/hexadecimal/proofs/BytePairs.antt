-- Both digits of a byte at once, as `pairs` computes them and reads them without a table.
use Rattle.std.proofs.Common.{◌≡◌, ℕ, ◌+◌, ◌*◌, ◌/◌, ◌%◌, ◌^◌, ◌<◌, Bool, true, eqb, bit_and, refl, sym, ap, ◌∙◌, arith, inl, inr}
use Rattle.std.proofs.lemmas.Bool.{agree_below_at, eqb-true}
use Rattle.std.proofs.lemmas.Nat.{and_block, and_mask}
use Rattle.hexadecimal.specs.Spelling.{digit}
use Rattle.hexadecimal.specs.Fields.{IsDigit}
use Rattle.hexadecimal.proofs.Digits.{digit_cases, digit_small}

-- ---- from a byte to its digits

abbrev is_pair : ℕ → Bool
unfolding digit
is_pair b = eqb (b / 16 + 256 * (b % 16) + 12336 + 39 * bit_and ((b / 16 + 256 * (b % 16) + 1542) / 16) 257)
    (digit (b / 16) + 256 * digit (b % 16))

pub pair_computed : (b : ℕ) → b < 256
    → b / 16 + 256 * (b % 16) + 12336 + 39 * bit_and ((b / 16 + 256 * (b % 16) + 1542) / 16) 257
    ≡ digit (b / 16) + 256 * digit (b % 16)
unfolding digit
pair_computed b lt = eqb-true _ _ (agree_below_at is_pair (λ _. true) 256 b refl lt)

pub first_half : (b pair : ℕ) → b < 256 → pair ≡ digit (b / 16) + 256 * digit (b % 16)
    → pair % 256 ≡ digit (b / 16)
first_half b pair lt is = let small = digit_small (b / 16) (omega arith) in omega (arith, is, small)

pub second_half : (b pair : ℕ) → b < 256 → pair ≡ digit (b / 16) + 256 * digit (b % 16)
    → pair / 256 ≡ digit (b % 16)
second_half b pair lt is = let small = digit_small (b / 16) (omega arith) in omega (arith, is, small)

-- ---- from two digits to their byte

-- the value of a digit: its lower half, and 9 more for a letter
record IsValueOf (c v : ℕ) : Type 0 where
  is : digit v ≡ c
  small : v < 16
  most : c < 128

value_at : (c : ℕ) → IsDigit c → IsValueOf c (c % 16 + 9 * (c / 64))
value_at c h =
    let is = h.is in
    let small = h.small in
    elim (digit_cases h.value small) [
      | inl low ↦
          let same : c % 16 + 9 * (c / 64) ≡ h.value = omega (arith, low.0, low.1, is) in
          record {
            is = ap digit same ∙ sym is;
            small = omega (arith, same, small);
            most = omega (arith, low.0, low.1, is);
          }
      | inr high ↦
          let same : c % 16 + 9 * (c / 64) ≡ h.value = omega (arith, high.0, high.1, is, small) in
          record {
            is = ap digit same ∙ sym is;
            small = omega (arith, same, small);
            most = omega (arith, high.1, is, small);
          }
    ]

-- what is computed of both digits, by each of them
apart : (pair : ℕ) → pair % 256 < 128 → pair / 256 < 128
    → bit_and pair 3855 + 9 * bit_and (pair / 64) 257
    ≡ (pair / 256 % 16 + 9 * (pair / 256 / 64)) * 256 + (pair % 256 % 16 + 9 * (pair % 256 / 64))
apart pair low high =
    let whole : pair / 256 * 2 ^ 8 + pair % 256 ≡ pair = omega arith in
    let shifted : pair / 64 / 256 * 2 ^ 8 + pair / 64 % 256 ≡ pair / 64 = omega arith in
    let lower = and_block 8 (pair / 256) 15 (pair % 256) 15 (omega arith) (omega arith) in
    let upper = and_block 8 (pair / 64 / 256) 1 (pair / 64 % 256) 1 (omega arith) (omega arith) in
    let one = rw whole at lower in
    let two = rw shifted at upper in
    let a : bit_and (pair / 256) 15 ≡ pair / 256 % 16 = and_mask (pair / 256) 4 in
    let b : bit_and (pair % 256) 15 ≡ pair % 256 % 16 = and_mask (pair % 256) 4 in
    let c : bit_and (pair / 64 / 256) 1 ≡ pair / 64 / 256 % 2 = and_mask (pair / 64 / 256) 1 in
    let d : bit_and (pair / 64 % 256) 1 ≡ pair / 64 % 256 % 2 = and_mask (pair / 64 % 256) 1 in
    omega (arith, one, two, a, b, c, d, low, high)

-- the values of both digits, of which the first is in the lower byte
pub record AreValues (pair values : ℕ) : Type 0 where
  pub below : values < 4096
  pub first : digit (values % 256) ≡ pair % 256
  pub second : digit (values / 256) ≡ pair / 256
  pub first_small : values % 256 < 16
  pub second_small : values / 256 < 16

pub values_are : (pair values : ℕ) → IsDigit (pair % 256) → IsDigit (pair / 256)
    → values ≡ bit_and pair 3855 + 9 * bit_and (pair / 64) 257 → AreValues pair values
values_are pair values p q is =
    let a = value_at (pair % 256) p in
    let b = value_at (pair / 256) q in
    let e = apart pair a.most b.most in
    let x = a.small in
    let y = b.small in
    let first : values % 256 ≡ pair % 256 % 16 + 9 * (pair % 256 / 64) = omega (arith, is, e, x, y) in
    let second : values / 256 ≡ pair / 256 % 16 + 9 * (pair / 256 / 64) = omega (arith, is, e, x, y) in
    record {
      below = omega (arith, second, y);
      first = ap digit first ∙ a.is;
      second = ap digit second ∙ b.is;
      first_small = omega (arith, first, x);
      second_small = omega (arith, second, y);
    }

-- the byte of these values
pub high_read : (pair values byte : ℕ) → AreValues pair values → byte ≡ (values * 16 + values / 256) % 256
    → digit (byte / 16) ≡ pair % 256
high_read pair values byte are is =
    let x = are.first_small in
    let y = are.second_small in
    let same : byte / 16 ≡ values % 256 = omega (arith, is, x, y) in
    ap digit same ∙ are.first

pub low_read : (pair values byte : ℕ) → AreValues pair values → byte ≡ (values * 16 + values / 256) % 256
    → digit (byte % 16) ≡ pair / 256
low_read pair values byte are is =
    let x = are.first_small in
    let y = are.second_small in
    let same : byte % 16 ≡ values / 256 = omega (arith, is, x, y) in
    ap digit same ∙ are.second
