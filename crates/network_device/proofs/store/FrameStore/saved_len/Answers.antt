use Rattle.std.proofs.Common.{ap, arith}
use Rattle.network_device.specs.Frames.{Store}
use Rattle.network_device.proofs.Saving.{len_is}
use Rattle.network_device.proofs.store.FrameStore.saved_len.Goals as goal

pub returns-clause-len : goal.returns-clause-len
returns-clause-len g c =
    let len = len_is c.self.inside.lens.items c.self.inside.bytes.items c.args.self.now.frames c.self.inside.whole
    (ap (λ (s : Store). s.frames) c.self.view_is) c.self.invariant.0 c.self.invariant.1 in
    omega (arith, len, c.len.ensures.len)

pub returns-clause-most : goal.returns-clause-most
returns-clause-most g c =
    omega (
      arith,
      ap (λ (s : Store). s.limits.frames) c.self.view_is,
      ap (λ (s : Store). s.limits.bytes) c.self.view_is,
      c.self.invariant,
      c.len.ensures.within,
    )
