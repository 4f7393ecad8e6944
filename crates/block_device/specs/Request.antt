-- What a driver asks for (5.2.6): the header's fields, and the checks in their order. All of it is known
-- before the image is touched.
use Rattle.std.specs.Prelude.{◌≡◌, ℕ, ◌+◌, ◌*◌, ◌/◌, ◌≤◌, ◌%◌, Bool, true, false, not, ◌&&◌, ◌==◌, nat_lt, nat_le, if◌then◌else◌, List, length, take, drop, Result, Ok, Err}
use Rattle.std.specs.List.{list_all}
use Rattle.byteorder.specs.Endian.{little_number}
use Rattle.block_device.specs.declared.device.BlockDevice.{BlockDevice}
use Rattle.block_device.specs.declared.request.RequestStatus.{RequestStatus}
use Rattle.block_device.specs.declared.request.RequestStatus.TheVariants.{Success, IoError, Unsupported}
use Rattle.block_device.specs.declared.request.Request.{Request}
use Rattle.block_device.specs.declared.request.Request.TheVariants.{Rejected, Read, Write, Flush, GetId, WriteZeroes}
use Rattle.block_device.specs.Extent.{sector_len}
use Rattle.block_device.specs.declared.segments.WriteZeroesSegment.{WriteZeroesSegment}
use Rattle.block_device.specs.Zeroes.{are_segments, has_known_flags, has_sectors_within, max_write_zeroes_seg, segment_len, segments_in}

-- The header is the first 16 readable bytes: the type in 4, 4 that are reserved, the sector in 8.
abbrev pub header_of : List ℕ → List ℕ
header_of readable = take 16 readable

abbrev pub type_of : List ℕ → ℕ
type_of readable = little_number 4 (header_of readable)

abbrev pub sector_in : List ℕ → ℕ
sector_in readable = little_number 8 (drop 8 (header_of readable))

-- the readable bytes behind the header: what is to be written, or segments
abbrev pub payload_of : List ℕ → List ℕ
payload_of readable = drop 16 readable

-- these many bytes are whole sectors, and from this sector on none of them is behind the last one
abbrev pub are_sectors : ℕ → ℕ → ℕ → Bool
are_sectors capacity sector len = (len % sector_len == 0) && nat_le (sector + len / sector_len) capacity

-- IN fills all writable bytes before the status.
abbrev pub in_request_of : BlockDevice → ℕ → ℕ → Request
in_request_of device sector room =
    if are_sectors device.extent.count sector room then Read sector (room / sector_len) else Rejected IoError

-- OUT writes all readable bytes behind the header, and nothing on a read-only device (5.2.6.2).
abbrev pub out_request_of : BlockDevice → ℕ → ℕ → Request
out_request_of device sector len =
    if device.read_only then Rejected IoError
    else if are_sectors device.extent.count sector len then Write sector (len / sector_len)
    else Rejected IoError

-- GET_ID wants room for the 20 bytes of the identity.
abbrev pub get_id_request_of : ℕ → Request
get_id_request_of room = if nat_lt room 20 then Rejected IoError else GetId

-- WRITE_ZEROES names the sectors by segments, of which all flags are judged before all sectors.
abbrev pub write_zeroes_request_of : BlockDevice → List ℕ → Request
write_zeroes_request_of device payload =
    if device.read_only then Rejected IoError
    else if not (are_segments (length payload)) then Rejected IoError
    else if not (list_all has_known_flags (segments_in payload)) then Rejected Unsupported
    else if not (list_all (has_sectors_within device.extent.count) (segments_in payload))
    then Rejected IoError
    else WriteZeroes (length payload / segment_len)

-- the segments of a WRITE_ZEROES with this payload, which passes the checks that come before theirs
pub record AreRead (device : BlockDevice) (payload : List ℕ)
    (segments : List WriteZeroesSegment) : Type 0 where
  pub are : segments ≡ segments_in payload
  pub writable : device.read_only ≡ false
  pub fit : are_segments (length payload) ≡ true

-- the segments of a WRITE_ZEROES with this payload, which can be served: each of them lies on the disk
pub record AreJudged (device : BlockDevice) (payload : List ℕ)
    (segments : List WriteZeroesSegment) : Type 0 where
  pub are : segments ≡ segments_in payload
  pub size : length payload ≡ segment_len * length segments
  pub few : length segments ≤ max_write_zeroes_seg
  pub within : list_all (has_sectors_within device.extent.count) segments ≡ true
  pub request : WriteZeroes (length segments) ≡ write_zeroes_request_of device payload

-- a request of this type
abbrev pub typed_request : BlockDevice → ℕ → ℕ → List ℕ → ℕ → Request
typed_request device kind sector payload room =
    if kind == 0 then in_request_of device sector room
    else if kind == 1 then out_request_of device sector (length payload)
    else if kind == 4 then Flush
    else if kind == 8 then get_id_request_of room
    else if kind == 13 then write_zeroes_request_of device payload
    else Rejected Unsupported

-- What a chain with these readable bytes asks for, where `room` writable bytes come before the status.
-- Without a whole header there is no type to look up.
abbrev pub request_of : BlockDevice → List ℕ → ℕ → Request
request_of device readable room =
    if nat_lt (length readable) 16 then Rejected IoError
    else typed_request device (type_of readable) (sector_in readable) (payload_of readable) room

-- the status of a request by how its calls of the image came out
abbrev pub status_of : {E : Type 0} → Result (Unit {0}) E → RequestStatus
status_of (Ok done) = Success
status_of (Err error) = IoError

-- Of a request that asked the image for something this says that a call failed.
abbrev pub is_io_error : RequestStatus → Bool
is_io_error IoError = true
is_io_error status = false

-- the byte that stands for a status (5.2.6)
abbrev pub code_of : RequestStatus → ℕ
code_of Success = 0
code_of IoError = 1
code_of Unsupported = 2
