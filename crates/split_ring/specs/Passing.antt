-- The places that a service of a split ring has passed.
use Rattle.std.specs.Prelude.{ℕ}
use Rattle.suppression.specs.Places.{Passed, idx_modulus}
use Rattle.chain.specs.declared.state.RingState.{RingState}
use Rattle.split_ring.specs.Kind.{first_passed}

-- the place is one of those that the service has passed
abbrev pub HasPassed : RingState → ℕ → Type 0
HasPassed ring place = Passed idx_modulus (first_passed ring) ring.used_count place
