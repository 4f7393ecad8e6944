-- One look at the queue of a disk that the host serves, while its guest may write: a service from a stage on, up to the next
-- request.
use Rattle.std.specs.Prelude.{◌≡◌, ℕ, Bool, true, false, List}
use Rattle.chain.specs.declared.segment.Buffer.{Buffer}
use Rattle.chain.specs.declared.segment.Segment.{Segment}
use Rattle.chain.specs.Service.{Entry}
use Rattle.block_device.specs.declared.device.BlockDevice.{BlockDevice}
use Rattle.block_device.specs.declared.operation.Operation.{Operation}
use Rattle.block_device.specs.declared.request.Request.{Request}
use Rattle.block_device.specs.Asking.{asks_image}
use Rattle.block_device.specs.Hosting.{hosted_device}
use Rattle.block_device.specs.Operation.{operation_of, runs_by}
use Rattle.racing_service.specs.declared.stage.Stage.{Stage}
use Rattle.racing_service.specs.Queue.{RacingKind}
use Rattle.racing_service.specs.Service.{IsRefusedService, Standing}
use Rattle.racing_disk.specs.Answering.{IsAnsweredIn}
use Rattle.racing_disk.specs.Telling.{HasStatus, IsLeft}

module _ {Ring : Type 0} (queues : RacingKind Ring) (device : BlockDevice) (races : Bool) (stage : Stage)
    (most : ℕ) where
  -- The chain of these buffers was seen on offer, and is left for this request. `kept` is what the segments of a WRITE_ZEROES
  -- name.
  pub record FindsRequest (a at : Standing Ring (Unit {0})) (buffers : List Buffer) (entry : Entry) (request : Request)
      (kept : List Segment) (wanted : Bool) : Type 0 where
    pub service : IsRefusedService queues (hosted_device device) races
        (λ state readable buffers request. IsLeft device readable buffers request kept) stage most a at buffers entry request wanted

  -- Its request asks for the disk: the chain is in flight, and the host is told of it by the copy that was judged. `Takes` is
  -- what is said of the ring that the chain was taken from.
  pub record FindsOneThatAsks (Takes : Ring → Type 0) (stable : Bool) (a b : Standing Ring (Unit {0})) (entry : Entry)
      (operation : Operation) (status writable : ℕ) (buffers : List Buffer) (runs : List Segment) (wanted : Bool) : Type 0 where
    pub at : Standing Ring (Unit {0})
    pub request : Request
    pub kept : List Segment
    pub finds : FindsRequest a at buffers entry request kept wanted
    pub taken : Takes at.ring
    pub asks : asks_image request ≡ true
    pub operation_is : operation ≡ operation_of stable request
    pub runs_are : (readable : List ℕ) → IsLeft device readable buffers request kept
        → runs ≡ runs_by request readable buffers
    pub place : HasStatus buffers status writable
    pub stands : b ≡ record at { ring = queues.still.launched at.ring entry }

  -- It asks for nothing: the chain is answered by the copy that was judged, and given back.
  pub record FindsOneToAnswer (a b : Standing Ring (Unit {0})) (wanted : Bool) : Type 0 where
    pub at : Standing Ring (Unit {0})
    pub buffers : List Buffer
    pub entry : Entry
    pub request : Request
    pub kept : List Segment
    pub finds : FindsRequest a at buffers entry request kept wanted
    pub asks : asks_image request ≡ false
    pub len : ℕ
    pub answered : (readable : List ℕ) → IsLeft device readable buffers request kept
        → IsAnsweredIn queues device races at.sightings b.sightings readable buffers entry len at.ring b.ring
    pub left : b.left ≡ at.left
