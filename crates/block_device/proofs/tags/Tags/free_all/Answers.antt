use Rattle.std.proofs.Common.{arith}
use Rattle.block_device.proofs.Bits.{all_free}
use Rattle.block_device.proofs.tags.Tags.free_all.Goals as goal

pub invariant_of-self : goal.invariant_of-self
invariant_of-self g c =
    all_free c.self.inside.items.items c.as_mut_slice.result.now c.free_each.new.tags c.self.inside.items.len
    c.free_each.ensures c.as_mut_slice.ensures.len (omega (arith, c.self.inside.items.ok.0)) c.self.invariant.0
