use Rattle.std.proofs.Common.{◌≤◌, ◌-◌, length}
use Rattle.racing_memory.proofs.region.RacingRegion.store_row.Given as goal

abbrev pub invariant-loop-done : goal.invariant-loop-done
invariant-loop-done l = l.done ≤ length l.bytes

abbrev pub decreases-loop-done : goal.decreases-loop-done
decreases-loop-done l = length l.bytes - l.done
