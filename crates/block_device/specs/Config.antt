-- The features that a block device offers (5.2.3), and its configuration space (5.2.4).
use Rattle.std.specs.Prelude.{ℕ, ◌+◌, Bool, if◌then◌else◌, List, ◌++◌, replicate}
use Rattle.byteorder.specs.Endian.{little_bytes}
use Rattle.negotiation.specs.Features.{block_seg_max, block_ro, block_blk_size, block_flush, block_write_zeroes, device_features}
use Rattle.block_device.specs.Extent.{sector_len}
use Rattle.block_device.specs.Zeroes.{max_write_zeroes_sectors, max_write_zeroes_seg}

-- the features that a block device offers (5.2.3); one that refuses writes says so
abbrev pub block_features : Bool → ℕ
block_features read_only =
    (if read_only then block_ro else
    0) + block_seg_max + block_blk_size + block_flush + block_write_zeroes + device_features

-- 64 bytes: the capacity in 8, seg_max in 4 from 12 on, blk_size in 4 from 20 on,
-- max_write_zeroes_sectors in 4 from 48 on, max_write_zeroes_seg in 4 from 52 on, and zeros
abbrev pub config_of : ℕ → List ℕ
config_of capacity =
    little_bytes 8 capacity ++ replicate 4 0 ++ little_bytes 4 126 ++ replicate 4 0
    ++ little_bytes 4 sector_len ++ replicate 24 0
    ++ little_bytes 4 max_write_zeroes_sectors ++ little_bytes 4 max_write_zeroes_seg ++ replicate 8 0
