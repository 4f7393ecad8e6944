-- What a disk that the host serves is asked for: a slot's own, or one of its further devices.
use Rattle.std.specs.Prelude.{◌≡◌, ℕ, List, Option, Some, None, get_or, if◌then◌else◌, is_some, length}
use Rattle.std.specs.List.{slice_get}
use Rattle.std.specs.Option.{option_and_then}
use Rattle.chain.specs.declared.segment.Segment.{Segment}
use Rattle.block_device.specs.declared.operation.Operation as asked
use Rattle.block_device.specs.Operation.{LiesInside}
use Rattle.block_device.specs.Flights.{InFlight}
use Rattle.c_values.specs.declared.operation.Operation.{Operation}
use Rattle.c_values.specs.declared.operation.Run.{Run}
use Rattle.c_values.specs.Operation.{told_operation, told_runs}
use Rattle.hosted_disk.specs.Disk.{HostedDisk}
use Rattle.board.specs.declared.slot_disk.SlotDisk.{SlotDisk}
use Rattle.board.specs.Units.{disk_in}
use Rattle.board.specs.Slot.{BoardSlot}
use Rattle.session.specs.Operations.{hosted_disk_at, in_flight_at}
use Rattle.session.specs.Session.{SessionState}
use Rattle.board_ffi.specs.Codes.{code_at}

-- what is in flight of a disk with this tag
abbrev pub flight_of : ℕ → SlotDisk → ℕ → List BoardSlot → Option InFlight
flight_of slot disk tag slots =
    option_and_then (λ found. get_or found.tags tag None) (hosted_disk_at slot disk slots)

-- what is answered of a slot of which nothing is in flight with a tag: it has no such disk, or there is nothing to do
abbrev pub rest_code : ℕ → SlotDisk → List BoardSlot → ℕ
rest_code slot disk slots = code_at slot (length slots) (if is_some (in_flight_at slot disk slots) then 21 else 6)

-- ---- what it is asked for

-- these tags are in flight of a slot's disk, and nothing changes
pub record HasInFlight (slot tags : ℕ) (disk : SlotDisk) (old new : SessionState) : Type 0 where
  pub taken : in_flight_at slot disk old.slots ≡ Some tags
  pub kept : new ≡ old

-- there is no such slot, or no such disk of it, and nothing changes
pub record IsNoDisk (slot code : ℕ) (disk : SlotDisk) (old new : SessionState) : Type 0 where
  pub none : in_flight_at slot disk old.slots ≡ None
  pub code_is : code ≡ code_at slot (length old.slots) 6
  pub kept : new ≡ old

-- What is in flight of a slot's disk with this tag: this operation, and these runs. Nothing of it lies outside the guest's
-- memory or the disk.
pub record IsInFlight (slot tag : ℕ) (disk : SlotDisk) (wanted : asked.Operation) (runs : List Segment)
    (session : SessionState) : Type 0 where
  pub found : BoardSlot
  pub served : HostedDisk
  pub here : InFlight
  pub there : slice_get session.slots slot ≡ Some found
  pub is_disk : disk_in disk found ≡ Some served
  pub flight : get_or served.tags tag None ≡ Some here
  pub operation : wanted ≡ here.flight.operation
  pub runs_are : runs ≡ here.runs
  pub inside : LiesInside served.device.extent.count found.memory here.flight.operation here.runs

-- It is told, and nothing changes.
pub record IsAskedFor (slot tag : ℕ) (operation : Operation) (room runs : List Run) (disk : SlotDisk)
    (old new : SessionState) : Type 0 where
  pub wanted : asked.Operation
  pub all : List Segment
  pub is : IsInFlight slot tag disk wanted all old
  pub told : operation ≡ told_operation wanted all
  pub runs_are : runs ≡ told_runs all room
  pub kept : new ≡ old

-- nothing of the disk is in flight with this tag, if there is such a disk, and nothing changes
pub record IsAtRest (slot tag code : ℕ) (disk : SlotDisk) (old new : SessionState) : Type 0 where
  pub rests : flight_of slot disk tag old.slots ≡ None
  pub code_is : code ≡ rest_code slot disk old.slots
  pub kept : new ≡ old
