use Rattle.std.proofs.Common.{◌∙◌, ◌+◌, ◌-◌, ◌≡◌, ◌≤◌, ap, arith, length, subst}
use Rattle.device_list.specs.Waiting.{each_waiting}
use Rattle.board.specs.Saved.{IsTakenAgain, snapshot_of}
use Rattle.board.specs.Slot.{BoardSlot, IsSoundSlot}
use Rattle.board.proofs.Saving.{front_fits, never_true, saved_len, saved_to}
use Rattle.board.proofs.slot.Slot.save_into.Goals as goal

pub returns-clause-saved : goal.returns-clause-saved
returns-clause-saved g c =
    let room : c.waiting_len-waiting.result ≤ length c.args.into.now = omega (arith, c.if-into-waiting.false) in
    let fits : c.in_ok-at.at ≤ length c.args.into.now - c.waiting_len-waiting.result =
    front_fits c.args.into.now _ c.in_ok-at.at c.waiting_len-waiting.result room c.in_ok-at.ensures.len
    c.in_ok-at.ensures.short.1 in
    saved_to c.args.self.now c.saved.result _ c.args.into.now c.write_into.new.into c.write_waiting.new.into
    c.len-waits.result c.in_ok-at.at c.waiting_len-waiting.result _
    (subst (λ (slot : BoardSlot). IsSoundSlot slot.memory slot.read_only slot.block slot.console slot.pending slot.devices)
    c.self.view_is c.self.invariant)
    c.saved.ensures.value (c.pending.ensures ∙ ap (λ (slot : BoardSlot). slot.pending) c.self.view_is)
    c.saved.ensures.block c.saved.ensures.console c.saved.ensures.devices
    (subst (λ (slot : BoardSlot). IsTakenAgain slot.devices) c.self.view_is c.write_waiting.ensures.back) c.in_ok-at.ensures.whole
    (c.len-waits.ensures ∙ ap (λ (slot : BoardSlot). length slot.devices) c.self.view_is) c.in_ok-at.ensures.len
    (c.waiting_len-waiting.ensures.value ∙ ap (λ (slot : BoardSlot). length (each_waiting slot.devices)) c.self.view_is)
    room fits (omega arith) c.in_ok-at.ensures.text
    (c.write_waiting.ensures.text ∙ ap (λ (slot : BoardSlot). each_waiting slot.devices) c.self.view_is)

pub returns-clause-short : goal.returns-clause-short
returns-clause-short g c =
    let room : c.waiting_len-waiting.result ≤ length c.args.into.now = omega (arith, c.if-into-waiting.false) in
    let fits : c.in_ok-at.at ≤ length c.args.into.now - c.waiting_len-waiting.result =
    front_fits c.args.into.now _ c.in_ok-at.at c.waiting_len-waiting.result room c.in_ok-at.ensures.len
    c.in_ok-at.ensures.short.1 in
    let total : c.in_ok-at.at + c.waiting_len-waiting.result ≡ length (snapshot_of c.args.self.now) =
    saved_len c.args.self.now c.saved.result _ c.len-waits.result c.in_ok-at.at c.waiting_len-waiting.result c.saved.ensures.value
    (c.pending.ensures ∙ ap (λ (slot : BoardSlot). slot.pending) c.self.view_is)
    (c.len-waits.ensures ∙ ap (λ (slot : BoardSlot). length slot.devices) c.self.view_is) c.in_ok-at.ensures.len
    (c.waiting_len-waiting.ensures.value ∙ ap (λ (slot : BoardSlot). length (each_waiting slot.devices)) c.self.view_is) in
    (λ never. absurd (never_true never), λ less. absurd (omega (arith, less, total, fits, room)))
