use Rattle.std.proofs.Common.{◌≤◌, length}
use Rattle.racing_memory.proofs.region.RacingRegion.copy_words.Given as goal

abbrev pub invariant-loop-left : goal.invariant-loop-left
invariant-loop-left l = l.left ≤ length l.into

abbrev pub decreases-loop-left : goal.decreases-loop-left
decreases-loop-left l = l.left
