-- Lists in flight, which land in any order.
use Rattle.std.proofs.Common.{◌≡◌, ◌∙◌, ℕ, ◌+◌, ◌-◌, ◌*◌, ◌%◌, ◌≤◌, ap, sym, arith}
use Rattle.std.proofs.Math.Nat.{mod-add-mod}
use Rattle.chain.specs.declared.state.RingState.{RingState}
use Rattle.chain.specs.Setup.{launched, shut}
use Rattle.packed_ring.specs.Kind.{landed, past}
use Rattle.packed_ring.specs.Ring.{next_taken, place_behind}

-- a ring between services, so far used and so far ahead
at_rest : RingState → ℕ → ℕ → RingState
at_rest ring place ahead = shut (record ring { place = place; ahead = ahead })

pub as_served : (ring : RingState) (length : ℕ) → shut (landed (launched length ring) length)
    ≡ shut (past ring length)
unfolding at_rest
as_served ring length = ap (at_rest ring (place_behind ring length)) (omega arith)

pub next_stays : (ring : RingState) (length : ℕ) → length ≤ ring.ahead
    → next_taken (landed ring length) ≡ next_taken ring
next_stays ring length some =
    let m = 2 * ring.setup.size in
    let same : ring.place + length + (ring.ahead - length) ≡ ring.place + ring.ahead = omega (arith, some) in
    mod-add-mod (ring.place + length) m (ring.ahead - length) ∙ ap (λ x. x % m) same

-- the place behind one list and another
behind_both : (m place one other : ℕ) → ((place + one) % m + other) % m ≡ ((place + other) % m + one) % m
behind_both m place one other =
    let same : place + one + other ≡ place + other + one = omega arith in
    mod-add-mod (place + one) m other ∙ ap (λ x. x % m) same ∙ sym (mod-add-mod (place + other) m one)

pub either : (ring : RingState) (one other : ℕ)
    → shut (landed (landed ring one) other) ≡ shut (landed (landed ring other) one)
unfolding at_rest
either ring one other =
    ap (λ place. at_rest ring place (ring.ahead - one - other))
    (behind_both (2 * ring.setup.size) ring.place one other)
    ∙ ap (at_rest ring (((ring.place + other) % (2 * ring.setup.size) + one) % (2 * ring.setup.size)))
    (omega arith)
