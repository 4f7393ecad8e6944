-- The script of an image for tests: which of its calls fail, and what was called so far. Calls of
-- read, write and flush are numbered together, from 0.
use Rattle.std.specs.Prelude.{◌≡◌, ℕ, ◌+◌, ◌-◌, ◌^◌, ◌<◌, List, ◌++◌, min, take, drop, IfSome}
use Rattle.std.specs.List.{Contains}
use Rattle.sector_cache.specs.Disk.{Disk, failed, written}
use Rattle.sector_cache.specs.Sector.{sector_of}

-- the numbers of the calls that fail; how many calls there were; how many of them were flushes
pub record Script : Type 0 where
  pub failing : List ℕ
  pub calls : ℕ
  pub flushes : ℕ

-- a script of which nothing was called yet
abbrev pub new_script : List ℕ → Script
new_script failing = record { failing = failing; calls = 0; flushes = 0 }

-- the number at which the counts stay
abbrev pub last_count : ℕ
last_count = 2 ^ 64 - 1

-- one more, or as many where the count stays
abbrev pub counted : ℕ → ℕ
counted n = min (n + 1) last_count

-- the next call fails: it is listed, and it is numbered, since no call fails once the count stays
abbrev pub Fails : Script → Type 0
Fails script = (script.calls < last_count) × Contains script.failing script.calls

-- after a read or a write
abbrev pub called : Script → Script
called script = record script { calls = counted script.calls }

-- after a flush
abbrev pub flush_called : Script → Script
flush_called script = record (called script) { flushes = counted script.flushes }

-- what a failed write leaves in its sector: the first half of the new bytes, the second of the old
abbrev pub half_written : List ℕ → ℕ → List ℕ → List ℕ
half_written bytes sector new = take 256 new ++ drop 256 (sector_of bytes sector)

-- after a failed write: that stands in the sector, and the failure is counted
abbrev pub IsHalfWritten : ℕ → List ℕ → Disk → Disk → Type 0
IsHalfWritten sector new old after =
    IfSome old.contents (λ bytes. after ≡ failed (written sector (half_written bytes sector new) old))
