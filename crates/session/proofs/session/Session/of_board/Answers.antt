-- Each guest's slot has its further devices, its output has room, and nothing of it is paused.
use Rattle.std.proofs.Common.{Err, length, None, refl, sym, ◌∙◌, ap}
use Rattle.std.proofs.lemmas.List.{length-map, length-replicate}
use Rattle.output_queue.specs.Waiting.{none_waiting}
use Rattle.session.specs.declared.fault.SessionFault.TheVariants.{NoMemory}
use Rattle.session.proofs.Plugged.{length-plugged}
use Rattle.session.proofs.Refusals.{handed_on, if_err, no_ok}
use Rattle.session.proofs.session.Session.of_board.Goals as goal

-- where a device isn't plugged in
pub returns-in_err-plug_devices-clause-made : goal.returns-in_err-plug_devices-clause-made
returns-in_err-plug_devices-clause-made g c =
    no_ok c.from_residual.result c.in_err-plug_devices.field-0.0 _
    (handed_on c.from_residual.result c.in_err-plug_devices.field-0.0 c.from_residual.ensures.1)

pub returns-in_err-plug_devices-clause-fault : goal.returns-in_err-plug_devices-clause-fault
returns-in_err-plug_devices-clause-fault g c =
    if_err c.from_residual.result NoMemory _
    (handed_on c.from_residual.result c.in_err-plug_devices.field-0.0 c.from_residual.ensures.1
    ∙ ap (λ why. Err why) c.in_err-plug_devices.ensures.fault) refl

-- there are as many slots as guests
pub invariant_of-result : goal.invariant_of-result
invariant_of-result g c =
    let many = sym (ap length c.in_ok-plug_devices.ensures.plugged
    ∙ length-plugged c.args.guests.now c.args.board.slots ∙ c.requires.bare.many) in (
      ap length c.in-Ok.ensures ∙ length-map c.args.guests.now (λ guest. none_waiting guest.outlet) ∙ many,
      ap length c.in-Ok-none_paused.ensures ∙ length-replicate (length c.args.guests.now) None ∙ many,
    )
