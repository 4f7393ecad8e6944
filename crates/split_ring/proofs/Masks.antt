-- A queue size is a power of two, so a place modulo the size is its low bits.
use Rattle.std.proofs.Common.{◌≡◌, ◌<◌, ◌-◌, ◌^◌, ◌%◌, ◌||◌, ◌&&◌, ℕ, zero, suc, Bool, true, refl, sym, subst, arith, bit_and, nat_eq}
use Rattle.std.specs.Prelude.{not}
use Rattle.std.specs.Int.{is_power_of_two}
use Rattle.std.proofs.lemmas.Grind.{bit_length}
use Rattle.std.proofs.lemmas.Bool.Decides.{nat_tests}
use Rattle.std.proofs.lemmas.Nat.{and_mask}
use lib.Count.{ones}
use Rattle.split_ring.specs.Ring.{IsQueueSize}

-- the power of two that is the size
size_at : ℕ → ℕ
size_at n = 2 ^ (bit_length 16 n - 1)

is_known : ℕ → Bool
is_known n = not (is_power_of_two n) || nat_eq n (size_at n)

all_below : ℕ → Bool
all_below zero = true
all_below (suc n) = is_known n && all_below n

first_known : all_below 257 ≡ true
unfolding all_below is_known size_at ones
first_known = refl

one_below : (i n : ℕ) → all_below n ≡ true → i < n → is_known i ≡ true
unfolding all_below
one_below i zero all below = absurd (omega (arith, below))
one_below i (suc n) all below = grind (arith, nat_tests, all, below, one_below i n)

-- a size is such a power
power_of : (size : ℕ) → IsQueueSize size → size ≡ size_at size
unfolding is_known
power_of size is = grind (
  arith,
  nat_tests,
  one_below size 257 first_known (omega (arith, is.most)),
  is.power_of_two,
)

-- a place modulo a queue size
pub masked : (place size : ℕ) → IsQueueSize size → bit_and place (size - 1) ≡ place % size
unfolding size_at
masked place size is =
    let power = power_of size is in
    subst (λ (n : ℕ). bit_and place (n - 1) ≡ place % n) (sym power) (and_mask place (bit_length 16 size - 1))
