-- What an image in memory is seen as.
use Rattle.std.specs.Prelude.{◌≡◌, ℕ, List}
use Rattle.sector_cache.specs.Disk.{Disk, new_disk}
use Rattle.sector_cache.specs.declared.memory.MemoryImage.{MemoryImage}

-- as one that was just made of its bytes, but that it may be dirty
abbrev pub disk_of : {A : Type 0} → MemoryImage A → Disk
disk_of image =
    record (new_disk image.bytes.items) { dirty = image.dirty }

-- a stop leaves its bytes as they stand
abbrev pub may_leave_of : {A : Type 0} → MemoryImage A → List ℕ → Type 0
may_leave_of image left = left ≡ image.bytes.items
