-- Chains in flight, which land in any order.
use Rattle.std.proofs.Common.{◌≡◌, ◌∙◌, ℕ, ◌+◌, ◌-◌, ◌%◌, ◌<◌, ap, arith}
use Rattle.std.proofs.Math.Nat.{mod-add-mod}
use Rattle.chain.specs.declared.state.RingState.{RingState}
use Rattle.chain.specs.Setup.{launched, shut}
use Rattle.suppression.specs.Places.{idx_modulus}
use Rattle.split_ring.specs.Kind.{landed, past}
use Rattle.split_ring.specs.Ring.{next_place, next_taken}

-- a ring between services, so far used and so far ahead
at_rest : RingState → ℕ → ℕ → RingState
at_rest ring place ahead = shut (record ring { place = place; ahead = ahead })

pub as_served : (ring : RingState) → shut (landed (launched 1 ring)) ≡ shut (past ring)
unfolding at_rest
as_served ring = ap (at_rest ring (next_place ring)) (omega arith)

pub next_stays : (ring : RingState) → 0 < ring.ahead → next_taken (landed ring) ≡ next_taken ring
next_stays ring some =
    let m = idx_modulus in
    let same : ring.place + 1 + (ring.ahead - 1) ≡ ring.place + ring.ahead = omega (arith, some) in
    mod-add-mod (ring.place + 1) m (ring.ahead - 1) ∙ ap (λ x. x % m) same
