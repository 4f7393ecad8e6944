-- An image as it is seen from outside, and what each call of it leaves.
use Rattle.std.specs.Prelude.{◌≡◌, ℕ, ◌+◌, ◌*◌, ◌/◌, Bool, true, false, List, length, Option, Some, IfSome, IsSomeAnd}
use Rattle.std.specs.Option.{option_map}
use Rattle.sector_cache.specs.Sector.{extent_of, sector_of, with_sector, with_sectors}

-- What a proof sees of an image:
-- its contents, or none where nothing is claimed of them (a file's);
-- how many sectors it has; how many of its calls have failed so far;
-- and whether it is dirty: a write was tried since the last flush that succeeded. Else it is clean.
pub record Disk : Type 0 where
  pub contents : Option (List ℕ)
  pub sector_count : ℕ
  pub failures : ℕ
  pub dirty : Bool

-- there are 512 bytes for each sector, as far as the contents are known
abbrev pub IsWhole : Disk → Type 0
IsWhole disk = IfSome disk.contents (λ bytes. length bytes ≡ 512 * disk.sector_count)

-- these are the sector's bytes, as far as the contents are known
abbrev pub IsSectorContents : Disk → ℕ → List ℕ → Type 0
IsSectorContents disk sector read = IfSome disk.contents (λ bytes. read ≡ sector_of bytes sector)

-- the contents are known, and these are those of `count` sectors from sector `first` on
abbrev pub Tells : Disk → (first count : ℕ) → List ℕ → Type 0
Tells disk first count lent = IsSomeAnd disk.contents (λ bytes. lent ≡ extent_of bytes first count)

-- An image that was just made of these bytes: it has them as its contents, no call has failed and it
-- is clean.
abbrev pub new_disk : List ℕ → Disk
new_disk bytes =
    record { contents = Some bytes; sector_count = length bytes / 512; failures = 0; dirty = false }

-- after a failed read or flush: one failure more, and nothing else
abbrev pub failed : Disk → Disk
failed disk = record disk { failures = disk.failures + 1 }

-- after a write that succeeded: the sector holds the new bytes, and the disk is dirty
abbrev pub written : ℕ → List ℕ → Disk → Disk
written sector new disk =
    record disk { contents = option_map (λ bytes. with_sector bytes sector new) disk.contents; dirty = true }

-- after sectors from sector `first` on were written in place: they hold the new bytes, and the disk is dirty
abbrev pub written_from : (first : ℕ) → List ℕ → Disk → Disk
written_from first new disk =
    record disk { contents = option_map (λ bytes. with_sectors bytes first new) disk.contents; dirty = true }

-- after a flush that succeeded: the disk is clean
abbrev pub flushed : Disk → Disk
flushed disk = record disk { dirty = false }

-- After a failed write: some 512 bytes stand in its sector, old, new or of any kind, and nothing
-- else is different from a write of them but that one failure more is counted.
pub record IsTorn (sector : ℕ) (old new : Disk) : Type 0 where
  pub left : List ℕ
  pub whole : length left ≡ 512
  pub torn : new ≡ failed (written sector left old)

-- ---- a stop, as a loss of power

-- Of a clean disk these bytes, which a stop left, are exactly its contents.
abbrev pub LeavesContents : Disk → List ℕ → Type 0
LeavesContents disk left = disk.dirty ≡ false → IfSome disk.contents (λ bytes. left ≡ bytes)

-- a clean disk stays clean, while no call fails
abbrev pub KeepsClean : Disk → Disk → Type 0
KeepsClean old new = new.failures ≡ old.failures → old.dirty ≡ false → new.dirty ≡ false
