-- The structure asks for none, for one place's, which was passed or wasn't, or for any.
use Rattle.std.proofs.Common.{◌≡◌, ◌+◌, ◌*◌, ◌↔◌, ◌∙◌, ap, ℕ, true, IsTrue, arith}
use Rattle.std.proofs.lemmas.Grind.{common_steps}
use Rattle.guest_memory.specs.Memory.{num}
use Rattle.suppression.specs.Places.{Passed}
use Rattle.suppression.specs.Packed.{event_flags, at_descriptor}
use Rattle.suppression.proofs.EventPlace.{PackedWants-event}
use Rattle.suppression.proofs.Numbers.{number_of_two}
use Rattle.suppression.proofs.packed.packed_wants_by.Goals as goal

pub returns-in-1 : goal.returns-in-1
returns-in-1 c = λ m area inside are.
    let flags = number_of_two m area 4 2 c.from_le_bytes-flags.result c.args.structure.now inside are
    (omega arith) c.from_le_bytes-flags.ensures in
    grind (arith, common_steps, flags)

pub returns-in-Some : goal.returns-in-Some
returns-in-Some c = λ m area inside are.
    let a = c.args in
    let place = c.in-Some.place in
    let flags = number_of_two m area 4 2 c.from_le_bytes-flags.result a.structure.now inside are
    (omega arith) c.from_le_bytes-flags.ensures in
    let start : area + 0 ≡ area = omega arith in
    let event = number_of_two m area 4 0 c.from_le_bytes-event.result a.structure.now inside are
    (omega arith) c.from_le_bytes-event.ensures
    ∙ ap (λ (b : ℕ). num m b 2) start in
    let asked_for : event_flags m area ≡ at_descriptor = grind (arith, common_steps, flags) in
    let negotiated : a.event_idx ≡ true = grind (arith, common_steps) in
    let wants = PackedWants-event m area a.n a.event_idx a.from a.passed place negotiated asked_for
    (c.in-Some.ensures.place m area event) in
    let among : IsTrue c.is_passed.result ↔ Passed (2 * a.n) a.from a.passed place =
    rw (← c.from.ensures) c.is_passed.ensures in
    (λ h. wants.1 (among.0 h), λ h. among.1 (wants.0 h))

pub returns-in-None : goal.returns-in-None
returns-in-None c = λ m area inside are.
    let flags = number_of_two m area 4 2 c.from_le_bytes-flags.result c.args.structure.now inside are
    (omega arith) c.from_le_bytes-flags.ensures in
    let event = number_of_two m area 4 0 c.from_le_bytes-event.result c.args.structure.now inside are
    (omega arith) c.from_le_bytes-event.ensures in
    grind (arith, common_steps, flags, event)

pub returns-in_default : goal.returns-in_default
returns-in_default c = λ m area inside are.
    let flags = number_of_two m area 4 2 c.from_le_bytes-flags.result c.args.structure.now inside are
    (omega arith) c.from_le_bytes-flags.ensures in
    grind (arith, common_steps, flags)
