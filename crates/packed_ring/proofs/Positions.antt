-- The positions of a ring.
use Rattle.std.proofs.Common.{◌≡◌, ℕ, ◌+◌, ◌%◌, ◌<◌, Bool, true, false, if◌then◌else◌, Some, None, arith}
use Rattle.std.proofs.lemmas.Nat.{mod_below}
use Rattle.guest_memory.specs.Memory.{Memory}
use Rattle.indirect.specs.Descriptors.{has_flag, next_flag}
use Rattle.packed_ring.specs.Ring.{descriptor_addr, flags_of, ring_descriptor}

-- the position at which a list goes on lies in the ring
pub next_below : (m : Memory) (desc n i j : ℕ) → i < n → (ring_descriptor m desc n i).next ≡ Some j → j < n
next_below m desc n i j below next = go (has_flag (flags_of m (descriptor_addr desc i)) next_flag) next
  where
    there : (i + 1) % n < n
    there = mod_below (i + 1) n (omega (arith, below))

    go : (v : Bool) → (if v then Some ((i + 1) % n) else None) ≡ Some j → j < n
    go true e = let same : (i + 1) % n ≡ j = cc e in omega (arith, there, same)
    go false e = cc e
