-- Which capacities a cache admits, and why its making is refused.
use Rattle.std.specs.Prelude.{◌≡◌, ℕ, ◌<◌, ◌≤◌, ◌⊎◌}
use Rattle.sector_cache.specs.declared.fault.CacheFault.{CacheFault}
use Rattle.sector_cache.specs.declared.fault.CacheFault.TheVariants.{BadCapacity, NoMemory}

-- a cache keeps 1 to 65536 sectors
abbrev pub IsCapacity : ℕ → Type 0
IsCapacity capacity = (1 ≤ capacity) × (capacity ≤ 65536)

-- a capacity with this fault, of which the first in the order of the variants counts:
-- it is outside of the range, or it is inside and there was no memory
abbrev pub RefusesCapacity : ℕ → CacheFault → Type 0
RefusesCapacity capacity BadCapacity = (capacity ≡ 0) ⊎ (65536 < capacity)
RefusesCapacity capacity NoMemory = IsCapacity capacity
