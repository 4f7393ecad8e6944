use Rattle.std.proofs.Common.{length}
use Rattle.show.proofs.teller.cut.Given as goal

abbrev pub decreases-loop-line : goal.decreases-loop-line
decreases-loop-line l = length l.rest
