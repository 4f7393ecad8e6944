use Rattle.std.proofs.Common.{◌∙◌, ap, arith}
use Rattle.block_device.proofs.Judging.{count_first, first_segments, segments_more}
use Rattle.block_device.proofs.segments.Segments.of.Goals as goal

pub push-requires : goal.push-requires
push-requires c =
    let few = count_first c.args.payload.now c.loop-index.index c.loop-index.list.items c.loop-index.invariant in
    (omega arith, omega (arith, few, c.requires, c.loop-index-test.true))

pub loop-index-preserved : goal.loop-index-preserved
loop-index-preserved c =
    segments_more c.args.payload.now c.loop-index.index c.loop-index.list.items c.push.new.self.items c.of.result
    c.loop-index.invariant c.of.ensures c.push.ensures.items

pub returns : goal.returns
returns c = c.loop-index.invariant ∙ ap (first_segments c.args.payload.now) (omega arith)
