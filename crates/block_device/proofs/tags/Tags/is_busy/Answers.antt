use Rattle.block_device.proofs.Bits.{busy_by}
use Rattle.block_device.proofs.tags.Tags.is_busy.Goals as goal

pub returns : goal.returns
returns g c =
    rw (← c.self.view_is) (busy_by c.self.inside.taken c.self.inside.items.items c.self.invariant.1)
