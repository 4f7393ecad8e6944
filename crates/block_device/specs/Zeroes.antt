-- The segments of a WRITE_ZEROES request, and the sectors that they name (5.2.6).
use Rattle.std.specs.Prelude.{◌≡◌, ℕ, ◌+◌, ◌*◌, ◌/◌, ◌%◌, Bool, ◌&&◌, ◌==◌, nat_lt, nat_le, List, [], ◌∷◌, ◌++◌, length, map, take, drop, replicate, flat_map}
use Rattle.std.specs.List.{range_with_len}
use Rattle.byteorder.specs.Endian.{little_number}
use Rattle.sector_cache.specs.Disk.{Disk, written, IsTorn}
use Rattle.block_device.specs.declared.segments.WriteZeroesSegment.{WriteZeroesSegment}
use Rattle.block_device.specs.declared.extent.Extent.{Extent}
use Rattle.block_device.specs.Extent.{KeepsOutside, extent_disk, sector_len}

-- the most sectors of a segment, and the most segments of a request (5.2.4)
abbrev pub max_write_zeroes_sectors : ℕ
max_write_zeroes_sectors = 65536

abbrev pub max_write_zeroes_seg : ℕ
max_write_zeroes_seg = 32

-- A segment has 16 bytes: the first sector in 8, the number of sectors in 4, the flags in 4.
abbrev pub segment_len : ℕ
segment_len = 16

abbrev pub segment_of : List ℕ → WriteZeroesSegment
segment_of bytes = record {
  sector = little_number 8 bytes;
  count = little_number 4 (drop 8 bytes);
  flags = little_number 4 (drop 12 bytes);
}

-- the segment of an index, and all segments that the data has
abbrev pub segment_at : List ℕ → ℕ → WriteZeroesSegment
segment_at payload index = segment_of (take segment_len (drop (segment_len * index) payload))

abbrev pub segments_in : List ℕ → List WriteZeroesSegment
segments_in payload = map (segment_at payload) (range_with_len 0 (length payload / segment_len))

-- these many bytes are whole segments, at least one of them and not too many
abbrev pub are_segments : ℕ → Bool
are_segments len = (len % segment_len == 0) &&
    (nat_lt 0 len && nat_le (len / segment_len) max_write_zeroes_seg)

-- no flag is set but unmap, which is bit 0; the others are reserved
abbrev pub has_known_flags : WriteZeroesSegment → Bool
has_known_flags segment = nat_lt segment.flags 2

-- the sectors are not too many, and none of them is behind the last one of the disk
abbrev pub has_sectors_within : ℕ → WriteZeroesSegment → Bool
has_sectors_within capacity segment =
    nat_le segment.count max_write_zeroes_sectors && nat_le (segment.sector + segment.count) capacity

-- the sectors of a segment, and those of all segments in order; a sector may be there more than once
abbrev pub sectors_of : WriteZeroesSegment → List ℕ
sectors_of segment = range_with_len segment.sector segment.count

abbrev pub all_sectors : List WriteZeroesSegment → List ℕ
all_sectors segments = flat_map sectors_of segments

-- the disk after these sectors were zeroed
abbrev pub zeroed_sectors : List ℕ → Disk → Disk
zeroed_sectors [] disk = disk
zeroed_sectors (sector ∷ sectors) disk = zeroed_sectors sectors (written sector (replicate sector_len 0) disk)

-- Zeroing ends at a sector of the list, of which the write fails: the sectors before it in the list are
-- zero, any bytes stand in that one, and the others are as before.
pub record IsStopped (sectors : List ℕ) (old new : Disk) : Type 0 where
  pub before : List ℕ
  pub sector : ℕ
  pub later : List ℕ
  pub listed : sectors ≡ before ++ sector ∷ later
  pub torn : IsTorn sector (zeroed_sectors before old) new

-- These sectors of an extent were zeroed, and the rest of the disk stays.
pub record IsZeroed (extent : Extent) (sectors : List ℕ) (old new : Disk) : Type 0 where
  pub seen : extent_disk extent new ≡ zeroed_sectors sectors (extent_disk extent old)
  pub outside : KeepsOutside extent old new

-- Zeroing them ends at one of which the write fails, and the rest of the disk stays.
pub record StopsZeroing (extent : Extent) (sectors : List ℕ) (old new : Disk) : Type 0 where
  pub stopped : IsStopped sectors (extent_disk extent old) (extent_disk extent new)
  pub outside : KeepsOutside extent old new
