use Rattle.std.proofs.Common.{◌∙◌, ap, length, ltb, refl}
use Rattle.device_list.specs.Waiting.{each_waiting}
use Rattle.board.specs.Slot.{BoardSlot}
use Rattle.board.proofs.Saving.{saved_len}
use Rattle.board.proofs.slot.Slot.saved_len.Goals as goal

pub returns : goal.returns
returns g c =
    saved_len c.args.self.now c.saved.result _ (length c.args.self.now.devices) c.written_len.result c.waiting_len.result c.saved.ensures.value
    (c.pending.ensures ∙ ap (λ (slot : BoardSlot). slot.pending) c.self.view_is)
    refl (c.written_len.ensures.value (ltb 0 (length c.args.self.now.devices)))
    (c.waiting_len.ensures.value ∙ ap (λ (slot : BoardSlot). length (each_waiting slot.devices)) c.self.view_is)
