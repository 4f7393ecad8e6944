-- A guest, as C describes it.
use Rattle.std.specs.Prelude.{ℕ, nat_lt, List, max, min}
use Rattle.std.specs.List.{take_while}
use Rattle.guest_memory.specs.declared.spec.RegionSpec.{RegionSpec}

-- how many bytes a slot has that this version describes
abbrev pub slot_size : ℕ
slot_size = 584

-- the regions that C describes: those before the first that has no bytes
abbrev pub regions_of : List RegionSpec → List RegionSpec
regions_of = take_while (λ region. nat_lt 0 region.len)

-- How many operations of a disk may be in flight. 0 is 1; a depth that is too large is so as it is told, too.
abbrev pub depth_of : ℕ → ℕ
depth_of depth = min (max depth 1) 255
