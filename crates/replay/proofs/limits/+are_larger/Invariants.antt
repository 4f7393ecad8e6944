use Rattle.std.proofs.Common.{length}
use Rattle.replay.proofs.limits.+are_larger.Given as goal

abbrev pub decreases-are_larger : goal.decreases-are_larger
decreases-are_larger l = length l.regions.now
