-- The places that a service passes, chain by chain.
use Rattle.std.proofs.Common.{◌≡◌, ℕ, ◌<◌, ◌↔◌, ◌⊎◌, inl, inr, arith}
use Rattle.suppression.specs.Places.{Passed, idx_modulus}
use Rattle.suppression.proofs.Going.{back_from_ahead, ahead_of_first, passed_more, passed_one}
use Rattle.chain.specs.declared.state.RingState.{RingState}
use Rattle.split_ring.specs.Kind.{first_passed, past}
use Rattle.split_ring.specs.Passing.{HasPassed}

pub same_first : (ring : RingState) → ring.used_count < idx_modulus
    → first_passed (past ring) ≡ first_passed ring
same_first ring most = back_from_ahead idx_modulus ring.place ring.used_count 1 (omega (arith, most))

pub passes_its_place : (ring : RingState) (place : ℕ) → ring.place < idx_modulus
    → ring.used_count < idx_modulus
    → HasPassed (past ring) place ↔ (HasPassed ring place ⊎ (place ≡ ring.place))
passes_its_place ring place below most =
    let m = idx_modulus in
    let here = ahead_of_first m ring.place ring.used_count below (omega (arith, most)) in
    let more = passed_more m (first_passed ring) ring.used_count 1 place in
    let one = passed_one m ring.place place below in
    let both : HasPassed (past ring) place ↔ (HasPassed ring place ⊎ Passed m ring.place 1 place) =
    rw (same_first ring most) (rw here at more) in
    (λ p. then_one one (both.0 p), λ q. both.1 (one_then one q))
  where
    then_one : {A B C : Type 0} → (B ↔ C) → A ⊎ B → A ⊎ C
    then_one one (inl a) = inl a
    then_one one (inr b) = inr (one.0 b)

    one_then : {A B C : Type 0} → (B ↔ C) → A ⊎ C → A ⊎ B
    one_then one (inl a) = inl a
    one_then one (inr c) = inr (one.1 c)
