use Rattle.board.proofs.Belonging.{devices_changed}
use Rattle.board.proofs.Beside.{same_range}
use Rattle.board.proofs.slot.Slot.resize_device.Goals as goal

pub invariant_of-self : goal.invariant_of-self
invariant_of-self g c =
    let memory = c.self.inside.memory in
    devices_changed memory memory _ c.self.inside.block c.self.inside.console _ _ c.resize.new.self c.self.invariant
    (same_range memory) (c.resize.ensures.sound memory c.self.invariant.devices_sound)
