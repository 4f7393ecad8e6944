-- What becomes of a request (5.2.6), on the disk that its device shows: where no image call fails a
-- function of what the image answers, and else the ways in which a request fails.
use Rattle.std.specs.Prelude.{◌≡◌, ℕ, ◌*◌, ◌<◌, Bool, true, List, [], ◌∷◌, ◌++◌, length, take, IfSome, ◌⊎◌}
use Rattle.std.specs.Option.{option_map}
pub use Rattle.sector_cache.specs.Sector.{with_sectors}
use Rattle.sector_cache.specs.Sector.{extent_of}
use Rattle.sector_cache.specs.Disk.{Disk, failed, flushed}
use Rattle.block_device.specs.declared.request.RequestStatus.{RequestStatus}
use Rattle.block_device.specs.declared.request.RequestStatus.TheVariants.{Success, IoError}
use Rattle.block_device.specs.declared.request.Request.{Request}
use Rattle.block_device.specs.declared.request.Request.TheVariants.{Rejected, Read, Write, Flush, GetId, WriteZeroes}
use Rattle.block_device.specs.Extent.{sector_len}
use Rattle.block_device.specs.Zeroes.{IsStopped, all_sectors, segments_in, zeroed_sectors}

-- the disk after a request, the bytes that are put in the first writable places, and the status
pub record Outcome : Type 0 where
  pub disk : Disk
  pub found : List ℕ
  pub status : RequestStatus

-- whether a disk is dirty once these bytes were written: no write is tried where there are none
abbrev pub dirty_after : List ℕ → Bool → Bool
dirty_after [] dirty = dirty
dirty_after (x ∷ xs) dirty = true

-- the disk after sectors were written with these bytes, from a sector on
abbrev pub filled : ℕ → List ℕ → Disk → Disk
filled sector new disk = record disk {
  contents = option_map (λ bytes. with_sectors bytes sector new) disk.contents;
  dirty = dirty_after new disk.dirty;
}

-- these bytes were read of `count` sectors from a sector on: they are the disk's, as far as it tells any
pub record AreSectorContents (disk : Disk) (sector count : ℕ) (found : List ℕ) : Type 0 where
  pub size : length found ≡ sector_len * count
  pub contents : IfSome disk.contents (λ bytes. found ≡ extent_of bytes sector count)

-- What a request puts in the first writable places: an IN what it reads, GET_ID the identity of the device
-- (5.2.6), others nothing.
abbrev pub Finds : List ℕ → Request → Disk → List ℕ → Type 0
Finds identity (Rejected status) disk found = found ≡ []
Finds identity (Read sector count) disk found = AreSectorContents disk sector count found
Finds identity (Write sector count) disk found = found ≡ []
Finds identity Flush disk found = found ≡ []
Finds identity GetId disk found = found ≡ identity
Finds identity (WriteZeroes segments) disk found = found ≡ []

-- the disk and the status after it: OUT and WRITE_ZEROES end by a flush, also without a sector
abbrev pub completed : Request → List ℕ → List ℕ → Disk → Outcome
completed (Rejected status) payload found disk = record { disk = disk; found = found; status = status }
completed (Read sector count) payload found disk = record { disk = disk; found = found; status = Success }
completed (Write sector count) payload found disk =
    record { disk = flushed (filled sector payload disk); found = found; status = Success }
completed Flush payload found disk = record { disk = flushed disk; found = found; status = Success }
completed GetId payload found disk = record { disk = disk; found = found; status = Success }
completed (WriteZeroes segments) payload found disk =
    record {
      disk = flushed (zeroed_sectors (all_sectors (segments_in payload)) disk);
      found = found;
      status = Success;
    }

-- A device of this identity ends the request so, and no image call fails.
pub record Completes (identity : List ℕ) (request : Request) (payload : List ℕ) (disk : Disk)
    (outcome : Outcome) : Type 0 where
  pub found : List ℕ
  pub finds : Finds identity request disk found
  pub is : outcome ≡ completed request payload found disk

-- IN fails at a sector: those before it were read, and nothing of that one is given
pub record ReadFails (sector count : ℕ) (disk : Disk) (outcome : Outcome) : Type 0 where
  pub done : ℕ
  pub sooner : done < count
  pub found : List ℕ
  pub finds : AreSectorContents disk sector done found
  pub is : outcome ≡ record { disk = failed disk; found = found; status = IoError }

-- OUT fails at a sector: those before it were written, any bytes stand in that one, and later ones are
-- as before
pub record WriteFails (sector count : ℕ) (payload : List ℕ) (disk : Disk) (outcome : Outcome) : Type 0 where
  pub done : ℕ
  pub sooner : done < count
  pub torn : List ℕ
  pub whole : length torn ≡ sector_len
  pub is : outcome ≡ record {
    disk = failed (filled sector (take (sector_len * done) payload ++ torn) disk);
    found = [];
    status = IoError;
  }

-- OUT fails at its flush: all sectors were written
abbrev pub FlushFails : ℕ → List ℕ → Disk → Outcome → Type 0
FlushFails sector payload disk outcome =
    outcome ≡ record { disk = failed (filled sector payload disk); found = []; status = IoError }

-- WRITE_ZEROES fails at a sector of its segments
pub record ZeroingFails (sectors : List ℕ) (disk : Disk) (outcome : Outcome) : Type 0 where
  pub left : Disk
  pub stopped : IsStopped sectors disk left
  pub is : outcome ≡ record { disk = left; found = []; status = IoError }

-- or at its flush: all sectors are zero
abbrev pub ZeroedUnflushed : List ℕ → Disk → Outcome → Type 0
ZeroedUnflushed sectors disk outcome =
    outcome ≡ record { disk = failed (zeroed_sectors sectors disk); found = []; status = IoError }

-- The request passes its checks and ends so at an image call that fails.
abbrev pub Fails : Request → List ℕ → Disk → Outcome → Type 0
Fails (Rejected status) payload disk outcome = ⊥
Fails (Read sector count) payload disk outcome = ReadFails sector count disk outcome
Fails (Write sector count) payload disk outcome = WriteFails sector count payload disk outcome
    ⊎ FlushFails sector payload disk outcome
Fails Flush payload disk outcome = outcome ≡ record { disk = failed disk; found = []; status = IoError }
Fails GetId payload disk outcome = ⊥
Fails (WriteZeroes segments) payload disk outcome =
    ZeroingFails (all_sectors (segments_in payload)) disk outcome
    ⊎ ZeroedUnflushed (all_sectors (segments_in payload)) disk outcome

abbrev pub Ends : List ℕ → Request → List ℕ → Disk → Outcome → Type 0
Ends identity request payload disk outcome = Completes identity request payload disk outcome
    ⊎ Fails request payload disk outcome
