use Rattle.std.proofs.Common.{length}
use Rattle.trace.specs.Text.{content}
use Rattle.trace.proofs.Sofar.{Sofar}
use Rattle.trace.proofs.read.read_trace.Given as goal

-- the lines so far are those of the trace
abbrev pub invariant-loop-rest : goal.invariant-loop-rest
invariant-loop-rest g l = Sofar l.fn.text (content l.trace) l.line l.rest

abbrev pub decreases-loop-rest : goal.decreases-loop-rest
decreases-loop-rest g l = length l.rest
