-- A queue has a descriptor.
use Rattle.std.proofs.Common.{◌≡◌, ℕ, zero, suc, ◌<◌, true, false, arith}
use lib.Count.{ones}
use Rattle.split_ring.specs.Ring.{IsQueueSize}

pub positive : (n : ℕ) → IsQueueSize n → 0 < n
unfolding ones
positive zero number = let test : false ≡ true = number.power_of_two in cc
positive (suc n) number = omega arith
