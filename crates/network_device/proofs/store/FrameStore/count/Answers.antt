use Rattle.std.proofs.Common.{sym, ◌∙◌}
use Rattle.network_device.proofs.Cutting.{length-cut}
use Rattle.network_device.proofs.store.FrameStore.count.Goals as goal

pub returns : goal.returns
returns g c =
    rw (← c.self.view_is) (c.len.ensures.len
    ∙ sym (length-cut c.self.inside.lens.items c.self.inside.bytes.items))
