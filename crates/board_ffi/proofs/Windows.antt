-- Whose window a number names.
use Rattle.std.proofs.Common.{◌≡◌, ℕ, zero, suc, false, Some, None, refl, arith}
use Rattle.std.specs.Prelude.{◌-◌, nat_lt}
use Rattle.std.proofs.lemmas.Bool.Decides.{nat_tests}
use Rattle.board_ffi.specs.Calls.{device_at, window_of}

-- one that is neither the disk's nor the console's is a further device's
pub behind : (number : ℕ) → window_of number ≡ None → device_at number ≡ Some (number - 2)
behind zero is = absurd (cc (is))
behind (suc zero) is = absurd (cc (is))
behind (suc (suc n)) is =
    let test : nat_lt (suc (suc n)) 2 ≡ false = grind (arith, nat_tests) in rw test refl
