use Rattle.std.proofs.Common.{length}
use Rattle.trace.proofs.print.regions.+push_regions.Given as goal

abbrev pub decreases-push_regions : goal.decreases-push_regions
decreases-push_regions g l = length l.regions.now
