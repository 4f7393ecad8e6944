-- Which boards there may be, and why others are refused.
use Rattle.std.specs.Prelude.{◌≡◌, ℕ, ⊤, Bool, true, false, ◌+◌, ◌-◌, ◌*◌, ◌/◌, ◌^◌, ◌<◌, ◌≤◌, List, [], length, take, All, Any, Some}
use Rattle.std.specs.List.{slice_get}
use Rattle.guest_memory.specs.Faults.{AreGood as AreGoodRegions, IsRefusedAt}
use Rattle.guest_memory.specs.declared.fault.MemoryFault.TheVariants as memory
use Rattle.sector_cache.specs.Fault.{IsCapacity}
use Rattle.sector_cache.specs.declared.fault.CacheFault.{CacheFault}
use Rattle.sector_cache.specs.declared.fault.CacheFault.TheVariants.{BadCapacity}
use Rattle.sector_cache.specs.declared.fault.CacheFault.TheVariants as cache
use Rattle.board.specs.declared.fault.BoardFault.{BoardFault}
use Rattle.board.specs.declared.fault.BoardFault.TheVariants.{NoSlots, TooManySlots, Slot, Cache, NoMemory}
use Rattle.board.specs.declared.fault.SlotFault.{SlotFault}
use Rattle.board.specs.declared.fault.SlotFault.TheVariants.{Memory, BadDepth, ExtentOutside, ExtentsOverlap}
use Rattle.board.specs.declared.spec.Backing.{Backing}
use Rattle.board.specs.declared.spec.Backing.TheVariants.{Image, Host}
use Rattle.board.specs.declared.spec.SlotSpec.{SlotSpec}
use Rattle.block_device.specs.declared.extent.Extent.{Extent}
use Rattle.block_device.specs.Extent.{IsWithin, sector_len}
use Rattle.board.specs.Extent.{IsApart, Overlaps}
use Rattle.board.specs.Slot.{extent_by, spare_by}

-- the most sectors that a disk may have whose bytes are counted in 64 bits
abbrev pub most_sectors : ℕ
most_sectors = (2 ^ 64 - 1) / 512

-- Where a disk must lie: an extent in an image of that many sectors; one that the host serves may have any
-- number of sectors whose bytes are counted so.
abbrev pub room_by : Backing → ℕ → ℕ
room_by Image sectors = sectors
room_by (Host depth) sectors = most_sectors

abbrev pub place_by : Backing → Extent → ℕ → Extent
place_by Image extent spare = record { start = extent.start; count = extent.count + spare }
place_by (Host depth) extent spare = record { start = 0; count = extent.count }

-- where a slot's sectors must lie: its disk's, and the spare ones behind them
abbrev pub place_of : SlotSpec → Extent
place_of spec = place_by spec.backing spec.extent spec.spare

abbrev pub Fits : ℕ → SlotSpec → Type 0
Fits sectors spec = IsWithin (room_by spec.backing sectors) (place_of spec)

-- how many operations may be in flight of a disk that the host serves
abbrev pub HasDepthBy : Backing → Type 0
HasDepthBy Image = ⊤
HasDepthBy (Host depth) = (1 ≤ depth) × (depth ≤ 64)

abbrev pub HasDepth : SlotSpec → Type 0
HasDepth spec = HasDepthBy spec.backing

-- what a disk that the host serves needs to be opened: its bytes are counted in 64 bits, and no more operations
-- are in flight than there are tags
abbrev pub HasRoomBy : Backing → Extent → Type 0
HasRoomBy Image extent = ⊤
HasRoomBy (Host depth) extent = (sector_len * extent.count < 2 ^ 64) × (depth ≤ 64)

abbrev pub HasRoom : SlotSpec → Type 0
HasRoom spec = HasRoomBy spec.backing spec.extent

-- what a slot has of the image, its spare sectors too
abbrev pub share : SlotSpec → Extent
share spec = record {
  start = (extent_by spec.backing spec.extent).start;
  count = (extent_by spec.backing spec.extent).count + spare_by spec.backing spec.spare;
}

-- a slot may be had on an image of that many sectors, beside the slots before it
pub record IsGoodSlot (sectors : ℕ) (earlier : List SlotSpec) (spec : SlotSpec) : Type 0 where
  pub memory : AreGoodRegions spec.regions
  pub depth : HasDepth spec
  pub within : Fits sectors spec
  pub apart : All (λ other. IsApart (share other) (share spec)) earlier

-- the slots before place n are good, each beside those before it
abbrev pub GoodBelow : ℕ → List SlotSpec → ℕ → Type 0
GoodBelow sectors slots n =
    (i : ℕ) (spec : SlotSpec) → i < n → slice_get slots i ≡ Some spec →
    IsGoodSlot sectors (take i slots) spec

-- all the slots can be had together: one to sixty-four, and each is good
pub record AreGood (sectors : ℕ) (slots : List SlotSpec) : Type 0 where
  pub some : 1 ≤ length slots
  pub few : length slots ≤ 64
  pub each : GoodBelow sectors slots (length slots)

-- a disk that the host serves with no operation in flight, or with more than there may be, of a slot whose
-- memory is good
pub record HasBadDepth (spec : SlotSpec) : Type 0 where
  pub memory : AreGoodRegions spec.regions
  pub depth : ¬ HasDepth spec

-- an extent that passes the image's end, or a disk that is too large, of a slot whose memory and depth are good
pub record HasExtentOutside (sectors : ℕ) (spec : SlotSpec) : Type 0 where
  pub memory : AreGoodRegions spec.regions
  pub depth : HasDepth spec
  pub outside : room_by spec.backing sectors < (place_of spec).start + (place_of spec).count

-- an extent inside the image that has a sector of an earlier slot's, of a slot whose memory and depth are good
pub record HasSharedSector (sectors : ℕ) (earlier : List SlotSpec) (spec : SlotSpec) : Type 0 where
  pub memory : AreGoodRegions spec.regions
  pub depth : HasDepth spec
  pub within : Fits sectors spec
  pub shared : Any (λ other. Overlaps (share other) (share spec)) earlier

-- a slot's fault, of which the first counts: its memory's, then how many operations may be in flight, then its
-- extent's end, then a sector that it shares
abbrev pub IsFaultOf : ℕ → List SlotSpec → SlotSpec → SlotFault → Type 0
IsFaultOf sectors earlier spec (Memory region fault) = IsRefusedAt spec.regions region fault
IsFaultOf sectors earlier spec BadDepth = HasBadDepth spec
IsFaultOf sectors earlier spec ExtentOutside = HasExtentOutside sectors spec
IsFaultOf sectors earlier spec ExtentsOverlap = HasSharedSector sectors earlier spec

-- the slot of this number is the first that isn't good, and has this fault
pub record HasFaultAt (sectors : ℕ) (slots : List SlotSpec) (number : ℕ) (fault : SlotFault) : Type 0 where
  pub few : length slots ≤ 64
  pub spec : SlotSpec
  pub there : slice_get slots number ≡ Some spec
  pub before : GoodBelow sectors slots number
  pub fault_is : IsFaultOf sectors (take number slots) spec fault

-- Why a board is refused, of which the first counts: the number of slots, then the slots' own faults,
-- slot by slot, then the cache's capacity, and last want of memory, whatever it was wanted for.
abbrev pub Refuses : ℕ → List SlotSpec → ℕ → BoardFault → Type 0
Refuses sectors slots cache NoSlots = slots ≡ []
Refuses sectors slots cache TooManySlots = 64 < length slots
Refuses sectors slots cache (Slot number fault) = HasFaultAt sectors slots number fault
Refuses sectors slots cache (Cache fault) = AreGood sectors slots
    × (¬ IsCapacity cache × (fault ≡ BadCapacity))
Refuses sectors slots cache NoMemory = AreGood sectors slots × IsCapacity cache

-- what is needed for a board
pub record IsAccepted (sectors : ℕ) (slots : List SlotSpec) (cache : ℕ) : Type 0 where
  pub slots_good : AreGood sectors slots
  pub capacity : IsCapacity cache

-- why there is no board where there is no cache: its capacity is bad, or memory was wanting
abbrev pub cache_refusal : CacheFault → BoardFault
cache_refusal BadCapacity = Cache BadCapacity
cache_refusal _ = NoMemory

-- there was no memory, whatever it was wanted for
abbrev pub is_want_of_memory : BoardFault → Bool
is_want_of_memory NoMemory = true
is_want_of_memory (Slot number (Memory region memory.NoMemory)) = true
is_want_of_memory (Cache cache.NoMemory) = true
is_want_of_memory _ = false
