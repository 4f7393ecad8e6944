use Rattle.std.proofs.Common.{None, rules, arith}
use Rattle.std.proofs.lemmas.List.Edits.{map_over_more}
use Rattle.block_device.proofs.tags.free_each.Goals as goal

pub loop-tag-preserved : goal.loop-tag-preserved
loop-tag-preserved g c =
    rw (c.set_free.ensures)
    (map_over_more (λ tag. None) c.args.tags.now c.loop-tag.tags c.loop-tag.tag-index c.tag-item.result
    (search (rules, arith)) c.loop-tag.invariant c.tag-item.is)
