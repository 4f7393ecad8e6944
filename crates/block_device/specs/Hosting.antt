-- A service of a disk that the host serves itself: each chain that asks for the disk stays in flight until the
-- host has completed its operation, in any order, and the service goes on behind it.
use Rattle.std.specs.Prelude.{◌≡◌, ◌↔◌, ℕ, ◌-◌, ◌<◌, Bool, true, not, IsTrue, List, [], ◌∷◌, length, drop, map, Option, Some, None}
use Rattle.guest_memory.specs.Memory.{Memory, Inside, SameRange, put}
use Rattle.chain.specs.declared.budget.Budget.{Budget}
use Rattle.chain.specs.declared.budget.Progress.{Progress}
use Rattle.chain.specs.declared.budget.Progress.TheVariants as progress
use Rattle.chain.specs.declared.segment.Buffer.{Buffer}
use Rattle.chain.specs.declared.segment.Segment.{Segment}
use Rattle.chain.specs.Budget.{AreWithin, IsSpent, chains_of, left_after, less_chain}
use Rattle.chain.specs.Buffers.{Good}
use Rattle.chain.specs.Bytes.{readable_of, writable_of}
use Rattle.chain.specs.Service.{Device, Site, Course, Spent, scattered, used_len, wrote}
use Rattle.negotiation.specs.Features.{block_flush}
use Rattle.negotiation.specs.Negotiation.{negotiated_of}
use Rattle.negotiation.specs.Sets.{has}
use Rattle.sector_cache.specs.Disk.{Disk}
use Rattle.mmio_window.specs.declared.queue.Queue.{Queue}
use Rattle.mmio_window.specs.declared.queue.Token.{Token}
use Rattle.mmio_window.specs.declared.stage.Stage.{Stage}
use Rattle.mmio_window.specs.Pieces.{ServesTo, fault_at, opened_at}
use Rattle.mmio_window.specs.Ready.{KeepsQueues}
use Rattle.mmio_window.specs.Window.{WindowState, queue_at, with_ring}
use Rattle.mmio_window.specs.Queue.{IsAhead, IsTaken, entry_of, queue_kind}
use Rattle.mmio_window.specs.Serving.{after_service}
use Rattle.block_device.specs.declared.device.BlockDevice.{BlockDevice}
use Rattle.block_device.specs.declared.hosting.Flight.{Flight}
use Rattle.block_device.specs.declared.hosting.Hosted.{Hosted}
use Rattle.block_device.specs.declared.hosting.Hosted.TheVariants as hosted
use Rattle.block_device.specs.declared.request.Request.{Request}
use Rattle.block_device.specs.declared.operation.Verdict.{Verdict}
use Rattle.block_device.specs.Asking.{IsAsked, found_by, status_by, unasked_device, used_by}
use Rattle.block_device.specs.Device.{block_device}
use Rattle.block_device.specs.Extent.{extent_disk}
use Rattle.block_device.specs.Operation.{operation_of, runs_for}
use Rattle.block_device.specs.Outcome.{Ends}
use Rattle.block_device.specs.Request.{code_of, payload_of}

-- where a service stands: the guest's memory, the queue, and the device's sectors of this disk
abbrev pub site_of : BlockDevice → Memory → Queue → Disk → Site Queue Disk
site_of device m queue disk = record { memory = m; ring = queue; state = extent_disk device.extent disk }

-- where it stands over a disk of its own
abbrev pub at_disk : Memory → Queue → Disk → Site Queue Disk
at_disk m queue disk = record { memory = m; ring = queue; state = disk }

-- The device over a disk that the host has: it serves a chain that asks for nothing, whatever the disk is.
abbrev pub hosted_device : BlockDevice → Device (Unit {0})
hosted_device device = record {
  takes = λ state. true;
  Gives = λ state readable w given.
      (disk : Disk) → (unasked_device device).Gives disk readable w
      (record { state = disk; written = given.written });
  LacksMemory = λ state readable w. ⊥;
}

-- Chains were served that ask for nothing, and the one on offer asks for the disk by this request; it isn't
-- touched.
pub record StopsAt (device : BlockDevice) (start now : Site Queue Disk) (buffers : List Buffer)
    (token : Token) (request : Request) : Type 0 where
  pub course : Course queue_kind (unasked_device device) start now
  pub offers : queue_kind.offers now.memory now.ring ≡ true
  pub offered : queue_kind.Offers now.memory now.ring buffers (entry_of token)
  pub taken : IsTaken now.ring token
  pub asked : IsAsked device now.memory buffers request

-- ---- the whole piece, from its opening

-- The piece comes to a chain that asks, behind an opening without a fault.
pub record AsksAt (device : BlockDevice) (stage : Stage) (old new : Site Queue Disk) (buffers : List Buffer)
    (token : Token) (request : Request) : Type 0 where
  pub opens : fault_at stage old.memory old.ring ≡ None
  pub stops : StopsAt device (record old { ring = opened_at stage old.memory old.ring }) new
      buffers token request
  pub good : Good new.memory buffers

-- whether the driver can't flush (5.2.6.2): its writes are stable once they are completed
abbrev pub wants_stable : WindowState → Bool
wants_stable w = not (has (negotiated_of w.negotiation) block_flush)

-- The chain has its status at this address, the last of its writable list, which is so long (5.2.6).
pub record HasStatusAt (buffers : List Buffer) (flight : Flight Token) : Type 0 where
  pub writable : flight.writable ≡ length (writable_of buffers)
  pub status : drop (flight.writable - 1) (writable_of buffers) ≡ flight.status ∷ []

-- The same as the window shows it, which shows nothing yet of a queue that stands open: the chain is in flight,
-- and the queue goes on behind it. And what the host is told.
pub record AsksIn (device : BlockDevice) (stage : Stage) (found : Option Queue) (old new : Memory)
    (before after : WindowState) (buffers : List Buffer) (runs : List Segment) (flight : Flight Token)
    (disk : Disk) : Type 0 where
  pub queue : Queue
  pub ready : Some queue ≡ found
  pub last : Queue
  pub request : Request
  pub asks : AsksAt device stage (site_of device old queue disk) (site_of device new last disk) buffers
      flight.token request
  pub window : after ≡ with_ring 0 before (queue_kind.launched last (entry_of flight.token))
  pub status : HasStatusAt buffers flight
  pub operation : flight.operation ≡ operation_of (wants_stable before) request
  pub runs_are : runs ≡ runs_for request new buffers

-- A piece of a service of a disk that the host serves, whatever that has: it asks, or it is a piece of the
-- device's service whose chains all ask for nothing.
abbrev pub HostsTo : BlockDevice → Stage → Budget → Option Queue → Hosted → Memory → Memory → WindowState
    → WindowState → List Buffer → List Segment → Disk → Type 0
HostsTo device stage budget found (hosted.Asks flight) old new before after buffers runs disk =
    AsksIn device stage found old new before after buffers runs flight disk
HostsTo device stage budget found hosted.More old new before after buffers runs disk =
    ServesTo stage (unasked_device device) budget 0 found progress.More old new before after
    (extent_disk device.extent disk) (extent_disk device.extent disk)
HostsTo device stage budget found hosted.Done old new before after buffers runs disk =
    ServesTo stage (unasked_device device) budget 0 found progress.Done old new before after
    (extent_disk device.extent disk) (extent_disk device.extent disk)

-- The chain asks within a budget: those before it are within that and haven't spent it, and this is left behind it.
pub record AsksWithin (device : BlockDevice) (stage : Stage) (budget left : Budget) (found : Option Queue)
    (old new : Memory) (before after : WindowState) (buffers : List Buffer) (runs : List Segment)
    (flight : Flight Token) (disk : Disk) : Type 0 where
  pub asks : AsksIn device stage found old new before after buffers runs flight disk
  pub within : AreWithin budget (chains_of asks.asks.stops.course.chains)
  pub unspent : ¬ IsSpent (left_after budget (chains_of asks.asks.stops.course.chains))
  pub left_is : left ≡ less_chain (left_after budget (chains_of asks.asks.stops.course.chains)) buffers

-- The piece within a budget, of which this is left where a chain asks.
abbrev pub HostsWithin : BlockDevice → Stage → Budget → Budget → Option Queue → Hosted → Memory → Memory → WindowState
    → WindowState → List Buffer → List Segment → Disk → Type 0
HostsWithin device stage budget left found (hosted.Asks flight) old new before after buffers runs disk =
    AsksWithin device stage budget left found old new before after buffers runs flight disk
HostsWithin device stage budget left found hosted.More old new before after buffers runs disk =
    HostsTo device stage budget found hosted.More old new before after buffers runs disk
HostsWithin device stage budget left found hosted.Done old new before after buffers runs disk =
    HostsTo device stage budget found hosted.Done old new before after buffers runs disk

-- how a piece came out in which no chain asked
abbrev pub hosted_by : Progress → Hosted
hosted_by progress.More = hosted.More
hosted_by progress.Done = hosted.Done

-- of a piece that asks, this holds of the chain in flight
abbrev pub IfAsks : (Flight Token → Type 0) → Hosted → Type 0
IfAsks P (hosted.Asks flight) = P flight
IfAsks P hosted.More = Unit {0}
IfAsks P hosted.Done = Unit {0}

-- what two looks leave is the same: the memory, the window, and what is in flight with its buffers and runs
pub record SameLook (one other : Hosted) (m n : Memory) (v w : WindowState) (b c : List Buffer)
    (r s : List Segment) : Type 0 where
  pub outcome : one ≡ other
  pub memory : m ≡ n
  pub window : v ≡ w
  pub buffers : IfAsks (λ flight. b ≡ c) one
  pub runs : IfAsks (λ flight. r ≡ s) one

-- ---- a chain in flight

-- The chain is in flight: its token is of the queue that the device may serve, and its status has a place in
-- the memory.
pub record IsInFlight (m : Memory) (w : WindowState) (flight : Flight Token) : Type 0 where
  pub queue : Queue
  pub ready : queue_at 0 w ≡ Some queue
  pub ahead : IsAhead queue flight.token
  pub status : Inside m flight.status 1
  pub some : 0 < flight.writable

-- It outlasts all that leaves the memory's range and the window's queues.
abbrev pub FlightOutlasts : Type 0
FlightOutlasts =
    (old new : Memory) (before after : WindowState) (flight : Flight Token)
    → IsInFlight old before flight
    → SameRange old new → KeepsQueues before after → IsInFlight new after flight

-- Its status is written as the host says, on the memory as the host left it, and this is its used length.
pub record IsCompleted {T : Type 0} (flight : Flight T) (answer : Verdict) (old new : Memory) (len : ℕ) : Type 0 where
  pub memory : new ≡ put old flight.status (code_of (status_by answer) ∷ [])
  pub len_is : len ≡ used_by (found_by flight.operation.kind answer (flight.writable - 1)) flight.writable

-- It is completed and given back.
pub record IsGivenBack (flight : Flight Token) (answer : Verdict) (old new : Memory)
    (before after : Queue) : Type 0 where
  pub done : Memory
  pub len : ℕ
  pub completed : IsCompleted flight answer old done len
  pub used : new ≡ queue_kind.used done before (entry_of flight.token) len true
  pub landed : after ≡ queue_kind.landed before (entry_of flight.token)

-- The same in its window, as an event of its own: the service ends behind it, and its driver is notified
-- where it wants to be.
pub record CompletesIn (flight : Flight Token) (answer : Verdict) (old new : Memory)
    (before after : WindowState) : Type 0 where
  pub queue : Queue
  pub ready : queue_at 0 before ≡ Some queue
  pub given : Memory
  pub behind : Queue
  pub gives : IsGivenBack flight answer old given queue behind
  pub wanted : Bool
  pub closed : new ≡ queue_kind.closed given behind
  pub wanted_is : IsTrue wanted ↔ queue_kind.Wants new behind
  pub window : after ≡ after_service Spent wanted (with_ring 0 before (queue_kind.shut behind))

-- The device serves the chain of these buffers in two parts: it read what stood in memory as the chain asked,
-- and writes on the memory as it stands at the completion.
pub record DoesLater (device : Device Disk) (asked old new : Memory) (buffers : List Buffer) (disk disk' : Disk)
    (len : ℕ) (any : Bool) : Type 0 where
  pub written : List (Option ℕ)
  pub gives : device.Gives disk (readable_of asked buffers) (length (writable_of buffers))
      (record { state = disk'; written = written })
  pub each : length written ≡ length (writable_of buffers)
  pub memory : new ≡ scattered old (writable_of buffers) written
  pub len_is : len ≡ used_len written
  pub any_is : any ≡ wrote written

-- Where the host did with the disk what may become of such a request, and memory has what was read, the chain
-- is served by the device over that disk, whatever other chains did meanwhile.
abbrev pub HonestHostServes : Type 0
HonestHostServes =
    (device : BlockDevice) (asked old new : Memory) (before after : Queue) (disk disk' : Disk)
    (buffers : List Buffer) (found : List ℕ) (flight : Flight Token) (answer : Verdict) (request : Request)
    → IsAsked device asked buffers request
    → HasStatusAt buffers flight
    → Ends device.identity request (payload_of (readable_of asked buffers)) disk
    (record { disk = disk'; found = found; status = status_by answer })
    → length found ≡ found_by flight.operation.kind answer (length (writable_of buffers) - 1)
    → scattered old (writable_of buffers) (map Some found) ≡ old
    → (back : IsGivenBack flight answer old new before after)
    → DoesLater (block_device device) asked old back.done buffers disk disk' back.len true
