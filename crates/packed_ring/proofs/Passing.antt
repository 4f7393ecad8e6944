-- The places that a service passes, list by list.
use Rattle.std.proofs.Common.{◌≡◌, ℕ, ◌+◌, ◌*◌, ◌<◌, ◌≤◌, ◌↔◌, ◌⊎◌, arith}
use Rattle.suppression.specs.Places.{Passed}
use Rattle.suppression.proofs.Going.{back_from_ahead, ahead_of_first, passed_more}
use Rattle.chain.specs.declared.state.RingState.{RingState}
use Rattle.packed_ring.specs.Kind.{HasPassed, first_passed, past}

pub same_first : (ring : RingState) (length : ℕ) → ring.used_count + length ≤ 2 * ring.setup.size
    → first_passed (past ring length) ≡ first_passed ring
same_first ring length most = back_from_ahead (2 * ring.setup.size) ring.place ring.used_count length most

pub passes_its_places : (ring : RingState) (length place : ℕ) → ring.place < 2 * ring.setup.size
    → ring.used_count + length ≤ 2 * ring.setup.size
    → HasPassed (past ring length) place
    ↔ (HasPassed ring place ⊎ Passed (2 * ring.setup.size) ring.place length place)
passes_its_places ring length place below most =
    let m = 2 * ring.setup.size in
    let here = ahead_of_first m ring.place ring.used_count below (omega (arith, most)) in
    let more = passed_more m (first_passed ring) ring.used_count length place in
    rw (same_first ring length most) (rw here at more)
