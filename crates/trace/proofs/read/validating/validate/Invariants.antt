use Rattle.std.proofs.Common.{length}
use Rattle.trace.specs.Validating.{validation}
use Rattle.trace.proofs.Validations.{ValidatedSofar}
use Rattle.trace.proofs.read.validating.validate.Given as goal

-- the lines so far are those of a trace, of which this is kept
abbrev pub invariant-loop-rest : goal.invariant-loop-rest
invariant-loop-rest g l = ValidatedSofar g.row.A.Denot l.fn.text (validation l.validated) l.line l.rest

abbrev pub decreases-loop-rest : goal.decreases-loop-rest
decreases-loop-rest g l = length l.rest
