-- Between a request's checks and its status.
use Rattle.std.specs.Prelude.{◌≡◌, ℕ, ◌+◌, ◌*◌, ◌≤◌, true, List, length, map, Some}
use Rattle.std.specs.List.{list_all}
use Rattle.guest_memory.specs.Memory.{Memory}
use Rattle.chain.specs.declared.segment.Buffer.{Buffer}
use Rattle.chain.specs.Bytes.{readable_of, writable_of}
use Rattle.chain.specs.Service.{scattered}
use Rattle.sector_cache.specs.Disk.{Disk}
use Rattle.block_device.specs.declared.device.BlockDevice.{BlockDevice}
use Rattle.block_device.specs.declared.request.RequestStatus.{RequestStatus}
use Rattle.block_device.specs.declared.request.Request.{Request}
use Rattle.block_device.specs.declared.request.Request.TheVariants.{Rejected, Read, Write, Flush, GetId, WriteZeroes}
use Rattle.block_device.specs.Request.{is_io_error, payload_of}
use Rattle.block_device.specs.Outcome.{Ends}
use Rattle.block_device.specs.Extent.{CallsWithin, extent_disk, sector_len}
use Rattle.block_device.specs.Zeroes.{has_sectors_within, segment_len, segments_in}

-- what the checks have shown of a request, with these bytes handed over and this much room
abbrev pub IsServable : ℕ → Request → List ℕ → ℕ → Type 0
IsServable capacity (Rejected status) payload room = Unit {0}
IsServable capacity (Read sector count) payload room = (sector + count ≤ capacity)
    × (room ≡ sector_len * count)
IsServable capacity (Write sector count) payload room = (sector + count ≤ capacity)
    × (length payload ≡ sector_len * count)
IsServable capacity Flush payload room = Unit {0}
IsServable capacity GetId payload room = 20 ≤ room
IsServable capacity (WriteZeroes segments) payload room =
    (length payload ≡ segment_len * segments)
    × (list_all (has_sectors_within capacity) (segments_in payload) ≡ true)

-- The request has ended but for its status, which is known and not yet written: the first len places of
-- the writable list are.
pub record IsDone (identity : List ℕ) (request : Request) (buffers : List Buffer) (old new : Memory)
    (disk disk' : Disk) (len : ℕ) (status : RequestStatus) : Type 0 where
  pub found : List ℕ
  pub ends : Ends identity request (payload_of (readable_of old buffers)) disk
      (record { disk = disk'; found = found; status = status })
  pub len_is : len ≡ length found
  pub memory : new ≡ scattered old (writable_of buffers) (map Some found)

-- The same of a request that reads nothing, whose status says whether a call of the image failed.
pub record IsWritten (device : BlockDevice) (request : Request) (buffers : List Buffer) (m : Memory)
    (status : RequestStatus) (old new : Disk) : Type 0 where
  pub done : IsDone device.identity request buffers m m (extent_disk device.extent old)
      (extent_disk device.extent new) 0 status
  pub calls : CallsWithin device.extent (is_io_error status) old new
