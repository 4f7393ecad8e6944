-- The image that all slots share, as it can be seen.
use Rattle.std.specs.Prelude.{ℕ, ◌/◌, Bool, IsSome, List, [], length, Some, unwrap_or}
use Rattle.sector_cache.specs.Disk.{Disk}
use Rattle.block_device.specs.Extent.{sector_len}

-- How the image fares: how many of its calls failed so far, and whether it is dirty: a write was tried since
-- the last flush that succeeded.
pub record Health : Type 0 where
  pub failures : ℕ
  pub dirty : Bool

-- the image tells its bytes
abbrev pub Tells : Disk → Type 0
Tells disk = IsSome disk.contents

-- the bytes that the image tells
abbrev pub bytes_of : Disk → List ℕ
bytes_of disk = unwrap_or disk.contents []

abbrev pub health_of : Disk → Health
health_of disk = record { failures = disk.failures; dirty = disk.dirty }

-- how many sectors these bytes fill
abbrev pub sectors_of : List ℕ → ℕ
sectors_of bytes = length bytes / sector_len

-- an image that tells these bytes and fares so
abbrev pub disk_with : List ℕ → Health → Disk
disk_with bytes health = record {
  contents = Some bytes;
  sector_count = sectors_of bytes;
  failures = health.failures;
  dirty = health.dirty;
}
