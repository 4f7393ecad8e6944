use Rattle.block_device.proofs.Bits.{new_tags}
use Rattle.block_device.proofs.tags.Tags.new.Goals as goal

pub invariant_of-result : goal.invariant_of-result
invariant_of-result g c =
    new_tags c.args.depth c.loop-alloc.items.items c.loop-alloc.invariant.free c.loop-alloc.invariant.most c.requires
