use Rattle.std.proofs.Common.{sym, ◌∙◌, arith}
use Rattle.network_device.proofs.Cutting.{get-cut}
use Rattle.network_device.proofs.store.FrameStore.frame_len.Goals as goal

pub returns : goal.returns
returns g c =
    rw (← c.self.view_is) (c.copied.ensures ∙ c.get.ensures
    ∙ sym (get-cut c.self.inside.lens.items c.self.inside.bytes.items c.args.index
    (omega (arith, c.self.invariant.0, c.self.invariant.1))))
