-- Which regions a guest's memory may have, and why others are refused.
use Rattle.std.specs.Prelude.{◌≡◌, ℕ, ◌+◌, ◌^◌, ◌<◌, ◌≤◌, List, [], length, take, map, replicate, Some}
use Rattle.std.specs.List.{All, slice_get, sum_by}
use Rattle.guest_memory.specs.declared.fault.MemoryFault.{MemoryFault}
use Rattle.guest_memory.specs.declared.fault.MemoryFault.TheVariants.{NoRegions, BadSize, BadBase, NotApart, NoMemory}
use Rattle.guest_memory.specs.declared.spec.RegionSpec.{RegionSpec}
use Rattle.guest_memory.specs.Limits.{IsSize, IsBase}
use Rattle.guest_memory.specs.Memory.{Memory}
use Rattle.guest_memory.specs.Regions.{Region, memory_of}

-- how many bytes the regions have together
abbrev pub size_of : List RegionSpec → ℕ
size_of regions = sum_by (λ r. r.len) regions

-- the size of a region behind some: a good one, and together they have 2^46 bytes at most
pub record HasSize (earlier : List RegionSpec) (r : RegionSpec) : Type 0 where
  pub own : IsSize r.len
  pub together : size_of earlier + r.len ≤ 2 ^ 46

-- its base: a good one, and from the first byte of none of them to its last byte there are 2^64 addresses
pub record HasBase (earlier : List RegionSpec) (r : RegionSpec) : Type 0 where
  pub own : IsBase r.base r.len
  pub spans : All (λ other. r.base + r.len < other.base + 2 ^ 64) earlier

-- each of them ends below the region, so that no range crosses from one to another
abbrev pub IsAbove : List RegionSpec → RegionSpec → Type 0
IsAbove earlier r = All (λ other. other.base + other.len < r.base) earlier

-- a region may stand behind these
pub record IsGoodRegion (earlier : List RegionSpec) (r : RegionSpec) : Type 0 where
  pub size : HasSize earlier r
  pub place : HasBase earlier r
  pub above : IsAbove earlier r

-- the regions before place n are good, each behind those before it
abbrev pub GoodBelow : List RegionSpec → ℕ → Type 0
GoodBelow regions n =
    (i : ℕ) (r : RegionSpec) → i < n → slice_get regions i ≡ Some r → IsGoodRegion (take i regions) r

-- a guest may have a memory of these regions
pub record AreGood (regions : List RegionSpec) : Type 0 where
  pub some : 1 ≤ length regions
  pub each : GoodBelow regions (length regions)

-- a region's fault behind those before it, of which the first counts: its size, its base, and that it isn't
-- apart
abbrev pub IsFaultOf : List RegionSpec → RegionSpec → MemoryFault → Type 0
IsFaultOf earlier r BadSize = ¬ HasSize earlier r
IsFaultOf earlier r BadBase = HasSize earlier r × ¬ HasBase earlier r
IsFaultOf earlier r NotApart = HasSize earlier r × HasBase earlier r × ¬ IsAbove earlier r
IsFaultOf earlier r _ = ⊥

-- the region at this place is the first that isn't good, and has this fault
pub record HasFaultAt (regions : List RegionSpec) (place : ℕ) (fault : MemoryFault) : Type 0 where
  pub region : RegionSpec
  pub there : slice_get regions place ≡ Some region
  pub before : GoodBelow regions place
  pub fault_is : IsFaultOf (take place regions) region fault

-- why there can be no memory of these regions, and the place of the region by which: there is none, or one
-- has a fault
abbrev pub IsRefusedAt : List RegionSpec → ℕ → MemoryFault → Type 0
IsRefusedAt regions place NoRegions = (regions ≡ []) × (place ≡ 0)
IsRefusedAt regions place NoMemory = ⊥
IsRefusedAt regions place fault = HasFaultAt regions place fault

-- why, whichever region it is by
pub record IsRefused (regions : List RegionSpec) (fault : MemoryFault) : Type 0 where
  pub place : ℕ
  pub by_it : IsRefusedAt regions place fault

-- why there is no such memory: it is refused, or there was no room for good regions
abbrev pub Refuses : List RegionSpec → MemoryFault → Type 0
Refuses regions NoMemory = AreGood regions
Refuses regions fault = IsRefused regions fault

-- a region's address and size
abbrev pub spec_of : Region → RegionSpec
spec_of r = record { base = r.base; len = length r.bytes }

-- a region of zeros
abbrev pub zeroed_region : RegionSpec → Region
zeroed_region r = record { base = r.base; bytes = replicate r.len 0 }

-- the memory of these regions, of zeros
abbrev pub zeroed_regions : List RegionSpec → Memory
zeroed_regions regions = memory_of (map zeroed_region regions)
