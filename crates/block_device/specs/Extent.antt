-- The sectors that one device shows of a disk, and all that is outside of them.
use Rattle.std.specs.Prelude.{◌≡◌, ℕ, ◌+◌, ◌*◌, ◌≤◌, Bool, if◌then◌else◌, List, length, take, drop, Option, Some, None}
use Rattle.std.specs.Option.{option_map}
use Rattle.sector_cache.specs.Sector.{extent_of}
use Rattle.sector_cache.specs.Disk.{Disk, KeepsClean}
use Rattle.sector_cache.specs.Stop.{TouchesOnly}
use Rattle.block_device.specs.declared.extent.Extent.{Extent}

-- how many bytes a sector has (5.2.4)
abbrev pub sector_len : ℕ
sector_len = 512

-- the extent lies in an image of that many sectors
abbrev pub IsWithin : ℕ → Extent → Type 0
IsWithin sectors extent = extent.start + extent.count ≤ sectors

-- The extent as a disk of its own, which is all that its driver sees: the extent's bytes, as far as they
-- are known, and as many sectors. Its failures are the disk's, and it is dirty where the disk is.
abbrev pub extent_disk : Extent → Disk → Disk
extent_disk extent disk = record disk {
  contents = option_map (λ bytes. extent_of bytes extent.start extent.count) disk.contents;
  sector_count = extent.count;
}

-- bytes that differ within the extent alone: those before it and those behind it are the same
pub record SameOutside (extent : Extent) (old new : List ℕ) : Type 0 where
  pub before : take (sector_len * extent.start) new ≡ take (sector_len * extent.start) old
  pub behind : drop (sector_len * (extent.start + extent.count)) new
      ≡ drop (sector_len * (extent.start + extent.count)) old
  pub size : length new ≡ length old

-- the same of what is known of the contents
abbrev pub SameContentsOutside : Extent → Option (List ℕ) → Option (List ℕ) → Type 0
SameContentsOutside extent None None = Unit {0}
SameContentsOutside extent None (Some new) = ⊥
SameContentsOutside extent (Some old) None = ⊥
SameContentsOutside extent (Some old) (Some new) = SameOutside extent old new

-- whatever becomes of the extent, the rest of the disk stays
pub record KeepsOutside (extent : Extent) (old new : Disk) : Type 0 where
  pub sectors : new.sector_count ≡ old.sector_count
  pub contents : SameContentsOutside extent old.contents new.contents

-- Calls of the image are made for one extent: the failures never fall, while they stay a clean disk stays
-- clean, and the image stays outside of it.
pub record StaysInExtent (extent : Extent) (old new : Disk) : Type 0 where
  pub rises : old.failures ≤ new.failures
  pub clean : KeepsClean old new
  pub outside : KeepsOutside extent old new

-- Nor does a stop at any moment, within a call too, leave anything else outside of the extent: whatever is
-- cut short.
abbrev pub TouchesExtent : {I : Type 0} → (moment : I → ℕ) → (may_leave : I → List ℕ → Type 0)
    → (left_since : I → ℕ → List ℕ → Type 0) → (extent : Extent) → (old new : I) → Type 0
TouchesExtent moment may_leave left_since extent old new =
    TouchesOnly moment may_leave left_since (sector_len * extent.start)
    (sector_len * (extent.start + extent.count)) old new

-- the same for one request, of which at most one call fails
pub record CallsWithin (extent : Extent) (failed : Bool) (old new : Disk) : Type 0 where
  pub counted : new.failures ≡ old.failures + (if failed then 1 else 0)
  pub outside : KeepsOutside extent old new

-- the same sectors, whatever failed and whatever is to be flushed: their driver can't tell the two
pub record SameSectors (s t : Disk) : Type 0 where
  pub contents : t.contents ≡ s.contents
  pub sectors : t.sector_count ≡ s.sector_count
