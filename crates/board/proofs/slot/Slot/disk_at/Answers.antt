use Rattle.board.proofs.FurtherDisks.{found_held}
use Rattle.board.proofs.slot.Slot.disk_at.Goals as goal

pub returns-clause-held : goal.returns-clause-held
returns-clause-held g c =
    rw (← c.self.view_is)
    (found_held (λ disk. disk.now) c.disk.result c.self.inside.memory c.self.inside.devices c.args.device
    c.self.invariant.devices_sound c.disk.ensures)
