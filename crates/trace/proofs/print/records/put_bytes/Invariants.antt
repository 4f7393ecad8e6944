use Rattle.std.proofs.Common.{length}
use Rattle.trace.specs.Sends.{waiting}
use Rattle.trace.proofs.RecordLines.{PutFront}
use Rattle.trace.proofs.print.records.put_bytes.Given as goal

-- the bytes before the rest are put
abbrev pub invariant-loop-rest : goal.invariant-loop-rest
invariant-loop-rest g l =
    PutFront (g.W.Write.contents l.fn.out) (g.W.Write.contents l.out) (waiting l.fn.buffer)
    (waiting l.buffer) l.bytes l.rest

abbrev pub decreases-loop-rest : goal.decreases-loop-rest
decreases-loop-rest g l = length l.rest
