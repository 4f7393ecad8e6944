use Rattle.std.proofs.Common.{◌≡◌, map, take}
use Rattle.guest_memory.specs.Faults.{zeroed_region}
use Rattle.guest_memory.proofs.memory.zeroed.Given as goal

abbrev pub invariant-loop-region : goal.invariant-loop-region
invariant-loop-region g l = l.made.items ≡ map zeroed_region (take l.region-index l.regions)
