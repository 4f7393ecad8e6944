-- What a memory was seen as, access by access.
use Rattle.std.specs.Prelude.{◌≡◌, ℕ, ◌+◌, ◌-◌, Bool, true, false, List, [], ◌∷◌, length, drop, map}
use Rattle.guest_memory.specs.Memory.{Memory, Inside, part_of, put_at, stored, with_marks}
use Rattle.guest_memory.specs.Faults.{zeroed_region, zeroed_regions}
use Rattle.guest_memory.specs.Regions.{AreApart}
use Rattle.guest_memory.specs.declared.spec.RegionSpec.{RegionSpec}
use Rattle.shared_memory.specs.Sightings.{Sightings}

-- an access found these bytes from an address on, or it stored them there
pub record Access : Type 0 where
  pub addr : ℕ
  pub bytes : List ℕ
  pub stores : Bool

-- what stood in a memory before the first access, from its first address on, and the bits of its pages, where these are kept
pub record Stood : Type 0 where
  pub bytes : List ℕ
  pub pages : List Bool

-- that, and the accesses so far, the last one first
pub record Noted : Type 0 where
  pub stood : Stood
  pub past : List Access

-- the regions of a memory, and that of them
pub record Seen : Type 0 where
  pub regions : List RegionSpec
  pub stood : Stood
  pub past : List Access

-- the memory of these regions, with these bytes from its first address on
abbrev pub filled : List RegionSpec → Stood → Memory
filled regions stood = record (zeroed_regions regions) {
  bytes = put_at (zeroed_regions regions).bytes 0 stood.bytes;
  pages = stood.pages;
}

-- a store marks the pages of its n bytes from address a on
abbrev pub marks_by : Bool → ℕ → ℕ → Memory → Memory
marks_by true a n m = with_marks m a n
marks_by false a n m = m

-- the memory that an access finds or leaves so
abbrev pub behind : Access → Memory → Memory
behind access m = stored (marks_by access.stores access.addr (length access.bytes) m) access.addr access.bytes

-- what was seen last: what stood there, with the bytes of each access
abbrev pub newest : List RegionSpec → Stood → List Access → Memory
newest regions stood [] = filled regions stood
newest regions stood (access ∷ past) = behind access (newest regions stood past)

-- the memory at each access
abbrev pub sightings_of : Seen → Sightings
sightings_of s = record { at = λ k. newest s.regions s.stood (drop (length s.past - k) s.past); now = length s.past }

-- and with one access more
abbrev pub seen_again : Bool → Seen → ℕ → List ℕ → Seen
seen_again stores s addr bytes = record s { past = record { addr = addr; bytes = bytes; stores = stores } ∷ s.past }

-- stores of bytes from an address on, one after another
abbrev pub noted_each : ℕ → List ℕ → List Access → List Access
noted_each addr [] past = past
noted_each addr (x ∷ bytes) past = noted_each (addr + 1) bytes (record { addr = addr; bytes = x ∷ []; stores = true } ∷ past)

abbrev pub stored_again : Seen → ℕ → List ℕ → Seen
stored_again s addr bytes = record s { past = noted_each addr bytes s.past }

-- An access of a range in this memory found the bytes that stand there, or stored the same, and it left the bits of the pages.
pub record IsFound (m : Memory) (access : Access) : Type 0 where
  pub inside : Inside m access.addr (length access.bytes)
  pub bytes : access.bytes ≡ part_of m access.addr (length access.bytes)
  pub pages : (marks_by access.stores access.addr (length access.bytes) m).pages ≡ m.pages

-- regions of which a memory can be: in ascending order, with a gap between each two, and the last ends by 2^64
abbrev pub MakeMemory : List RegionSpec → Type 0
MakeMemory regions = AreApart (map zeroed_region regions)
