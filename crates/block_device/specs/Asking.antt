-- A request in two parts: what is answered without the image, and, where the image is asked, what its answer
-- leads to.
use Rattle.std.specs.Prelude.{◌≡◌, ℕ, ◌+◌, ◌-◌, ◌==◌, Bool, true, false, if◌then◌else◌, List, [], ◌∷◌, length, drop}
use Rattle.guest_memory.specs.Memory.{Memory}
use Rattle.chain.specs.declared.segment.Buffer.{Buffer}
use Rattle.chain.specs.Bytes.{readable_of, writable_of, scatter}
use Rattle.chain.specs.Service.{Device, Does}
use Rattle.sector_cache.specs.Disk.{Disk}
use Rattle.block_device.specs.declared.answer.Begun.{Begun}
use Rattle.block_device.specs.declared.answer.Begun.TheVariants.{Answered, Asks}
use Rattle.block_device.specs.declared.answer.Begun.TheVariants as begun
use Rattle.block_device.specs.declared.device.BlockDevice.{BlockDevice}
use Rattle.block_device.specs.declared.request.RequestStatus.{RequestStatus}
use Rattle.block_device.specs.declared.request.RequestStatus.TheVariants.{Success, IoError}
use Rattle.block_device.specs.declared.request.Request.{Request}
use Rattle.block_device.specs.declared.request.Headed.{Headed}
use Rattle.block_device.specs.declared.request.Headed.TheVariants.{Known}
use Rattle.block_device.specs.declared.request.Headed.TheVariants as headed
use Rattle.block_device.specs.declared.request.Request.TheVariants.{Rejected, GetId, WriteZeroes}
use Rattle.block_device.specs.declared.operation.OperationKind.{OperationKind}
use Rattle.block_device.specs.declared.operation.OperationKind.TheVariants as kind
use Rattle.block_device.specs.declared.operation.Verdict.{Verdict}
use Rattle.block_device.specs.declared.operation.Verdict.TheVariants as verdict
use Rattle.block_device.specs.Device.{device_by}
use Rattle.block_device.specs.Outcome.{Outcome, Ends}
use Rattle.block_device.specs.Progress.{IsServable}
use Rattle.block_device.specs.Request.{request_of, payload_of, code_of, sector_in, type_of, write_zeroes_request_of}

-- whether a request asks the image for something
abbrev pub asks_image : Request → Bool
asks_image (Rejected status) = false
asks_image GetId = false
asks_image request = true

-- A request that asks the image for nothing ends without it.
pub record EndsUnasked (identity : List ℕ) (request : Request) (payload : List ℕ) (disk : Disk)
    (outcome : Outcome) : Type 0 where
  pub unasked : asks_image request ≡ false
  pub ends : Ends identity request payload disk outcome

-- the device, as far as it serves chains that ask the image for nothing
abbrev pub unasked_device : BlockDevice → Device Disk
unasked_device device = device_by (EndsUnasked device.identity) device

-- ---- a request that isn't known by its header

-- whether segments behind its header say what it writes
abbrev pub has_segments : Request → Bool
has_segments (WriteZeroes segments) = true
has_segments request = false

-- so many readable bytes begin with a header of these fields
pub record HasHeader (kind sector len : ℕ) (readable : List ℕ) : Type 0 where
  pub kind_is : kind ≡ type_of readable
  pub sector_is : sector ≡ sector_in readable
  pub long : length readable ≡ len

-- A chain with these readable bytes, where `room` writable bytes come before the status, asks for this, which
-- has no segments.
pub record IsKnown (device : BlockDevice) (readable : List ℕ) (room : ℕ) (request : Request) : Type 0 where
  pub is : request ≡ request_of device readable room
  pub servable : IsServable device.extent.count request (payload_of readable) room
  pub plain : has_segments request ≡ false

-- It is a WRITE_ZEROES, with so many bytes of segments; whether it can be served isn't known.
pub record IsZeroes (device : BlockDevice) (readable : List ℕ) (room len : ℕ) : Type 0 where
  pub is : request_of device readable room ≡ write_zeroes_request_of device (payload_of readable)
  pub len_is : length (payload_of readable) ≡ len

abbrev pub IsHeaded : BlockDevice → List ℕ → ℕ → Headed → Type 0
IsHeaded device readable room (Known request) = IsKnown device readable room request
IsHeaded device readable room (headed.Zeroes len) = IsZeroes device readable room len

-- The chain of these buffers is such a WRITE_ZEROES, with a place for its status.
pub record HasUnreadSegments (device : BlockDevice) (m : Memory) (buffers : List Buffer) (len : ℕ) : Type 0 where
  pub room : ℕ
  pub all : length (writable_of buffers) ≡ room + 1
  pub zeroes : IsZeroes device (readable_of m buffers) room len

-- The chain's request can't be served, and this is why.
pub record IsRejected (device : BlockDevice) (m : Memory) (buffers : List Buffer)
    (status : RequestStatus) : Type 0 where
  pub room : ℕ
  pub all : length (writable_of buffers) ≡ room + 1
  pub is : Rejected status ≡ request_of device (readable_of m buffers) room

-- The chain of these buffers holds this request, which passed its checks and asks the image for something.
pub record IsAsked (device : BlockDevice) (m : Memory) (buffers : List Buffer)
    (request : Request) : Type 0 where
  pub room : ℕ
  pub all : length (writable_of buffers) ≡ room + 1
  pub is : request ≡ request_of device (readable_of m buffers) room
  pub servable : IsServable device.extent.count request (payload_of (readable_of m buffers)) room
  pub asks : asks_image request ≡ true

-- What a chain comes to before the image is asked: it is served, whatever the disk is, or it asks, or its
-- segments are still to be read.
abbrev pub Begins : BlockDevice → Memory → Memory → List Buffer → Begun → Type 0
Begins device old new buffers (Answered used) =
    (disk : Disk) → Does (unasked_device device) old new buffers disk disk used.len used.wrote
Begins device old new buffers (Asks request) = IsAsked device old buffers request × (new ≡ old)
    × (has_segments request ≡ false)
Begins device old new buffers (begun.Zeroes len) = HasUnreadSegments device old buffers len × (new ≡ old)

-- the used len of a chain of so many writable places, of which these many first ones and the last one are
-- written
abbrev pub used_by : ℕ → ℕ → ℕ
used_by len writable = if len + 1 == writable then writable else len

-- the status is written in the last writable place
abbrev pub with_status : Memory → List Buffer → RequestStatus → Memory
with_status m buffers status =
    scatter m (drop (length (writable_of buffers) - 1) (writable_of buffers)) (code_of status ∷ [])

-- ---- an image that the host serves

abbrev pub status_by : Verdict → RequestStatus
status_by verdict.Done = Success
status_by verdict.Failed = IoError

-- how many of the first places hold what was asked for: of an IN that was done all that come before the
-- status
abbrev pub found_by : OperationKind → Verdict → ℕ → ℕ
found_by kind.In verdict.Done room = room
found_by what answer room = 0
