-- A ring that takes up where another of its setup stood.
use Rattle.std.specs.Prelude.{ℕ, Bool, ◌+◌, ◌*◌, ◌&&◌, ◌||◌, ◌==◌, nat_le, nat_lt, if◌then◌else◌, Option, Some, None}
use Rattle.chain.specs.Setup.{served_so_far}
use Rattle.chain.specs.declared.state.RingState.{RingState}

-- a place of the ring; fewer places than twice the ring's size are passed or in flight, and while a service
-- goes on it ends within the ring's size
abbrev pub is_reached : ℕ → ℕ → ℕ → ℕ → ℕ → Bool
is_reached size place pending used_count ahead =
    nat_lt place (2 * size) && nat_lt (used_count + ahead) (2 * size) &&
    (pending == 0 || nat_le (used_count + ahead + pending) size)

-- the ring, served so far: at this place, with so many places left until its service ends, so many that it
-- has passed, and so many in flight
abbrev pub served_to : ℕ → ℕ → ℕ → ℕ → RingState → Option RingState
served_to place pending used_count ahead ring =
    if is_reached ring.setup.size place pending used_count ahead
    then Some (served_so_far place pending used_count ahead ring)
    else None
