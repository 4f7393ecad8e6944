-- What a chain asks for, by one copy of its readable list (5.2.6).
use Rattle.std.specs.Prelude.{◌≡◌, ℕ, true, List}
use Rattle.chain.specs.declared.segment.Buffer.{Buffer}
use Rattle.chain.specs.declared.segment.Segment.{Segment}
use Rattle.shared_memory.specs.Sightings.{Sightings}
use Rattle.block_device.specs.declared.device.BlockDevice.{BlockDevice}
use Rattle.block_device.specs.declared.request.Request.{Request}
use Rattle.block_device.specs.Asking.{has_segments}
use Rattle.block_device.specs.Operation.{zeroes_in}
use Rattle.block_device.specs.Progress.{IsServable}
use Rattle.block_device.specs.Request.{payload_of, request_of, write_zeroes_request_of}
use Rattle.racing_disk.specs.Copying.{IsCopy}

-- A chain with these readable bytes, where `room` writable bytes come before the status, asks for this. Where segments say
-- what it zeroes, these are the runs of the segments in the same bytes.
pub record IsJudgedBy (device : BlockDevice) (readable : List ℕ) (room : ℕ) (request : Request)
    (runs : List Segment) : Type 0 where
  pub is : request ≡ request_of device readable room
  pub servable : IsServable device.extent.count request (payload_of readable) room
  pub zeroes : has_segments request ≡ true → runs ≡ zeroes_in (payload_of readable)

-- One copy of the chain's readable list has all of that: nothing was judged by another read than the one that is told.
pub record IsJudged (device : BlockDevice) (old new : Sightings) (buffers : List Buffer) (room : ℕ) (request : Request)
    (runs : List Segment) : Type 0 where
  pub readable : List ℕ
  pub copy : IsCopy old new buffers readable
  pub judged : IsJudgedBy device readable room request runs

-- a WRITE_ZEROES with this payload comes to this, and the runs are of the segments in the same bytes
pub record IsZeroing (device : BlockDevice) (payload : List ℕ) (request : Request) (runs : List Segment) : Type 0 where
  pub is : request ≡ write_zeroes_request_of device payload
  pub servable : (room : ℕ) → IsServable device.extent.count request payload room
  pub zeroes : has_segments request ≡ true → runs ≡ zeroes_in payload
