use Rattle.std.proofs.Common.{bit_and, w64}
use Rattle.std.specs.Int.{bit_not}
use Rattle.std.specs.List.{slice_get}
use Rattle.block_device.specs.Tags.{taken_bits}
use Rattle.trace.specs.Sends.{waiting}
use Rattle.replay.specs.Running.{tags_of}
use Rattle.replay.proofs.Begun.{PutSofar}
use Rattle.replay.proofs.asking.put_tags.Given as goal

-- some of the operations that began are put, and those of the tags that are left aren't yet
abbrev pub invariant-loop-left : goal.invariant-loop-left
invariant-loop-left g l =
    PutSofar l.device (tags_of l.device (slice_get l.board.slots l.slot))
    (bit_and (taken_bits (tags_of l.device (slice_get l.board.slots l.slot))) (bit_not w64 l.stayed)) l.left
    l.is_first l.is_none (g.W.Write.contents l.fn.writer) (g.W.Write.contents l.writer) (waiting l.fn.text)
    (waiting l.text)

abbrev pub decreases-loop-left : goal.decreases-loop-left
decreases-loop-left g l = l.left
