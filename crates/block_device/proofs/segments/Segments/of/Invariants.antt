use Rattle.std.proofs.Common.{◌≡◌}
use Rattle.block_device.proofs.Judging.{first_segments}
use Rattle.block_device.proofs.segments.Segments.of.Given as goal

abbrev pub invariant-loop-index : goal.invariant-loop-index
invariant-loop-index l = l.list.items ≡ first_segments l.payload l.index
