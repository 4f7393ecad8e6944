-- Sectors of a list of bytes. A sector has 512 bytes (5.2.4: the unit of every block request), and
-- sector k is the 512 bytes that begin at byte 512 * k.
use Rattle.std.specs.Prelude.{ℕ, ◌+◌, ◌*◌, List, ◌++◌, length, take, drop}

-- the bytes of `count` sectors from sector `start` on
abbrev pub extent_of : List ℕ → ℕ → ℕ → List ℕ
extent_of bytes start count = take (512 * count) (drop (512 * start) bytes)

-- the 512 bytes of one sector
abbrev pub sector_of : List ℕ → ℕ → List ℕ
sector_of bytes sector = take 512 (drop (512 * sector) bytes)

-- the bytes with new ones in place of one sector; all before and after it is as it was
abbrev pub with_sector : List ℕ → ℕ → List ℕ → List ℕ
with_sector bytes sector new = take (512 * sector) bytes ++ (new ++ drop (512 * (sector + 1)) bytes)

-- the bytes with new ones in place of as many from a sector on
abbrev pub with_sectors : List ℕ → ℕ → List ℕ → List ℕ
with_sectors bytes first new = take (512 * first) bytes ++ (new ++ drop (512 * first + length new) bytes)
