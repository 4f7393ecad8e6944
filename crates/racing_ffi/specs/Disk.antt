-- What the disk is asked for, as C has it.
use Rattle.std.specs.Prelude.{◌≡◌, ℕ, ◌≤◌, List, Option, Some, None, get_or, length}
use Rattle.guest_memory.specs.Memory.{Memory}
use Rattle.chain.specs.declared.segment.Segment.{Segment}
use Rattle.block_device.specs.declared.operation.Operation as asked
use Rattle.block_device.specs.Operation.{LiesInside}
use Rattle.c_values.specs.declared.operation.Operation.{Operation}
use Rattle.c_values.specs.declared.operation.Run.{Run}
use Rattle.c_values.specs.Operation.{told_operation, told_runs}
use Rattle.block_device.specs.Tags.{operation_in, runs_in}
use Rattle.racing_session.specs.Session.{IsMemoryOf, RacingSession, in_flight}

-- what is in flight with a tag, and where its bytes lie
abbrev pub operation_of : ℕ → RacingSession → Option asked.Operation
operation_of tag session = operation_in (get_or session.guest.block.disk.tags tag None)

abbrev pub runs_of : ℕ → RacingSession → List Segment
runs_of tag session = runs_in (get_or session.guest.block.disk.tags tag None)

-- these tags are in flight, and nothing changes
pub record HasInFlight (tags code : ℕ) (old new : RacingSession) : Type 0 where
  pub taken : tags ≡ in_flight old.guest
  pub done : code ≡ 0
  pub kept : new ≡ old

-- What is in flight with the tag: this operation, and these runs. Nothing of it lies outside the guest's memory or its disk,
-- whatever stands in that memory.
pub record IsInFlight (tag : ℕ) (wanted : asked.Operation) (runs : List Segment) (session : RacingSession) : Type 0 where
  pub flight : operation_of tag session ≡ Some wanted
  pub runs_are : runs ≡ runs_of tag session
  pub few : length runs ≤ 256
  pub inside : (m : Memory) → IsMemoryOf session m
      → LiesInside session.guest.block.disk.device.extent.count m wanted runs

-- it is told, and nothing changes
pub record IsAskedFor (tag : ℕ) (operation : Operation) (room runs : List Run) (old new : RacingSession) : Type 0 where
  pub wanted : asked.Operation
  pub all : List Segment
  pub is : IsInFlight tag wanted all old
  pub told : operation ≡ told_operation wanted all
  pub runs_are : runs ≡ told_runs all room
  pub kept : new ≡ old

-- nothing is in flight with the tag, and nothing changes
pub record IsAtRest (tag code : ℕ) (old new : RacingSession) : Type 0 where
  pub rests : operation_of tag old ≡ None
  pub idle : code ≡ 21
  pub kept : new ≡ old
