-- A ring that takes up where another of its setup stood.
use Rattle.std.specs.Prelude.{ℕ, ◌+◌, nat_le, if◌then◌else◌, Option, Some, None}
use Rattle.chain.specs.Setup.{served_so_far}
use Rattle.chain.specs.declared.state.RingState.{RingState}

-- the ring, served so far: at this place, with so many chains that its service may still take, so many that
-- it has used, and so many in flight; these are no more than the queue has descriptors
abbrev pub served_to : ℕ → ℕ → ℕ → ℕ → RingState → Option RingState
served_to place pending used_count ahead ring =
    if nat_le (used_count + pending + ahead) ring.setup.size then Some
    (served_so_far place pending used_count ahead ring) else None
