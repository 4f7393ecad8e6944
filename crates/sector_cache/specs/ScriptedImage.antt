-- What a scripted image is seen as: its disk, and its script beside that.
use Rattle.std.specs.Prelude.{ℕ, List}
use Rattle.sector_cache.specs.Disk.{Disk}
use Rattle.sector_cache.specs.MemoryImage as memory
use Rattle.sector_cache.specs.Script.{Script}
use Rattle.sector_cache.specs.declared.scripted.ScriptedImage.{ScriptedImage}

-- the image in memory behind it, with the failures that were called for
abbrev pub disk_of : {A : Type 0} → ScriptedImage A → Disk
disk_of image = record (memory.disk_of image.memory) { failures = image.failures }

abbrev pub script_of : {A : Type 0} → ScriptedImage A → Script
script_of image =
    record { failing = image.failing.items; calls = image.calls; flushes = image.flushes }

-- a stop leaves its bytes as they stand
abbrev pub may_leave_of : {A : Type 0} → ScriptedImage A → List ℕ → Type 0
may_leave_of image left = memory.may_leave_of image.memory left
