-- A host that does with a guest's disk what may become of the request that was asked for, and says so.
use Rattle.std.specs.Prelude.{◌≡◌, ℕ, ◌-◌, true, Some, None, List, All, length, map, get_or}
use Rattle.guest_memory.specs.Memory.{Memory}
use Rattle.chain.specs.declared.segment.Buffer.{Buffer}
use Rattle.chain.specs.Bytes.{readable_of, writable_of}
use Rattle.chain.specs.Service.{scattered}
use Rattle.mmio_window.specs.declared.queue.Queue.{Queue}
use Rattle.mmio_window.specs.Window.{queue_at}
use Rattle.sector_cache.specs.Disk.{Disk}
use Rattle.block_device.specs.declared.device.BlockDevice.{BlockDevice}
use Rattle.block_device.specs.declared.operation.Verdict.{Verdict}
use Rattle.block_device.specs.declared.request.Request.{Request}
use Rattle.block_device.specs.Asking.{IsAsked, found_by, status_by}
use Rattle.block_device.specs.Device.{block_device}
use Rattle.block_device.specs.Flights.{HostedQueue, InFlight, IsLanding, IsLook}
use Rattle.block_device.specs.Hosting.{CompletesIn, DoesLater, wants_stable}
use Rattle.block_device.specs.Operation.{operation_of, runs_for}
use Rattle.block_device.specs.Outcome.{Ends}
use Rattle.block_device.specs.Request.{payload_of}
use Rattle.board.specs.declared.event.EventKind.{EventKind}
use Rattle.board.specs.declared.reply.Record.{Record}
use Rattle.board.specs.HostedDisks.{LeavesTagOf}
use Rattle.board.specs.Units.{DiskUnit, SlotDisk, in_flight_of, unit_at, unit_queue}
use Rattle.board.specs.Line.{MayBeTold}
use Rattle.board.specs.Slot.{SlotState}
use Rattle.board.specs.Steps.{IsAnsweredBy}

-- The way of an operation of one of a slot's disks: in a look of its device, from this state of the queue on, its chain
-- took this tag; its guest did this and that, and the host completed other operations; and then it completed this one, in a
-- window that may be served. Behind it the queue stood so.
pub record IsFlown (A : Type 0) (disk : SlotDisk) (device : BlockDevice) (began : HostedQueue) (tag : ℕ)
    (here : InFlight) (now : SlotState) (verdict : Verdict) (new : HostedQueue) : Type 0 where
  pub asking : SlotState
  pub first : DiskUnit
  pub asked_of : unit_at disk asking ≡ Some first
  pub looks : IsLook device began (unit_queue asking.memory first)
  pub free : get_or began.tags tag None ≡ None
  pub takes : get_or (in_flight_of disk asking) tag None ≡ Some here
  pub events : List (EventKind A)
  pub records : List (Record A)
  pub others : All (LeavesTagOf disk tag) events
  pub course : IsAnsweredBy (MayBeTold 0) asking events records now
  pub last : DiskUnit
  pub completed_of : unit_at disk now ≡ Some last
  pub queue : Queue
  pub ready : queue_at 0 last.window ≡ Some queue
  pub lands : IsLanding tag verdict (unit_queue now.memory last) new

-- The model's block device serves the chain over this disk, in two parts: it read what stood in memory as the
-- chain asked, and it writes on the memory as it stands at the completion. So it is whatever the host did to the
-- disk meanwhile, where that is what may become of the request that was asked for, and memory has what was read.
pub record IsHonestlyServed {A : Type 0} (disk : SlotDisk) (device : BlockDevice) (began : HostedQueue) (tag : ℕ)
    (here : InFlight) (now : SlotState) (verdict : Verdict) (new : HostedQueue)
    (flown : IsFlown A disk device began tag here now verdict new) : Type 0 where
  pub asked : Memory
  pub buffers : List Buffer
  pub request : Request
  pub asks : IsAsked device asked buffers request
  pub operation : here.flight.operation ≡ operation_of (wants_stable began.window) request
  pub runs : here.runs ≡ runs_for request asked buffers
  pub completes :
      CompletesIn here.flight verdict now.memory new.memory flown.last.window new.window
  pub serves :
      (contents contents' : Disk) (found : List ℕ)
      → Ends device.identity request (payload_of (readable_of asked buffers)) contents
      (record { disk = contents'; found = found; status = status_by verdict })
      → length found ≡ found_by here.flight.operation.kind verdict (length (writable_of buffers) - 1)
      → scattered now.memory (writable_of buffers) (map Some found) ≡ now.memory
      → DoesLater (block_device device) asked now.memory completes.gives.done buffers contents contents'
      completes.gives.len true
