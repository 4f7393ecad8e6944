use Rattle.std.proofs.Common.{◌≡◌, ◌++◌, ◌-◌, ◌≤◌, All, length, map}
use Rattle.std.specs.Option.{option_copied}
use Rattle.trace.specs.Cuts.{parts, parts_left}
use Rattle.trace.specs.Spelling.{region_text}
use Rattle.trace.specs.Words.{RegionInRange}
use Rattle.trace.proofs.read.regions.regions_of.Given as goal

-- the parts so far are those of the regions so far
abbrev pub invariant-loop-rest : goal.invariant-loop-rest
invariant-loop-rest l =
    (parts 44 l.field ≡ map region_text l.regions.items ++ parts_left 44 (option_copied l.rest))
    × (length l.regions.items ≤ 8)
    × All RegionInRange l.regions.items

abbrev pub decreases-loop-rest : goal.decreases-loop-rest
decreases-loop-rest l = 8 - length l.regions.items
