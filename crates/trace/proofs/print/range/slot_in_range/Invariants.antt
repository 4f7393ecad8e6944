use Rattle.std.proofs.Common.{ℕ, ◌<◌, get_or}
use Rattle.guest_memory.specs.declared.spec.RegionSpec.{RegionSpec}
use Rattle.trace.specs.Words.{RegionInRange}
use Rattle.trace.proofs.print.range.slot_in_range.Given as goal

-- those so far are in range
abbrev pub invariant-loop-region : goal.invariant-loop-region
invariant-loop-region l =
    (k : ℕ) (d : RegionSpec) → k < l.region-index → RegionInRange (get_or l.slot.regions k d)
