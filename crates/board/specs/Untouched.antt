-- Which events touch their guest's memory, and what it means that the others have no part in it.
use Rattle.std.specs.Prelude.{◌≡◌, ◌↔◌, ℕ, Bool, true, false, slice_set}
use Rattle.guest_memory.specs.Memory.{Memory, SameRange}
use Rattle.board.specs.declared.event.EventKind.{EventKind}
use Rattle.board.specs.declared.event.EventKind.TheVariants.{Read, Write, Resize, Restore, Host}
use Rattle.block_device.specs.declared.operation.HostEvent.TheVariants.{Drop, Hold}
use Rattle.board.specs.Machine.{task_at}
use Rattle.board.specs.Outcome.{Outcome}
use Rattle.board.specs.Slot.{SlotState}
use Rattle.board.specs.Task.{Task, Serve}
use Rattle.board.specs.World.{World}

-- whether a task serves a queue
abbrev pub serves_queue : Task → Bool
serves_queue (Serve service) = true
serves_queue task = false

-- Whether an event touches its guest's memory: a notification of a queue that the device may serve (4.2.3.3), input,
-- a completion, a release, and reads and writes of the memory do.
abbrev pub touches_memory : {A : Type 0} → EventKind A → SlotState → Bool
touches_memory (Read window offset width) state = false
touches_memory (Write window offset width value) state = serves_queue (task_at window offset width value state)
touches_memory (Resize cols rows) state = false
touches_memory (Restore bytes) state = false
touches_memory (Host Drop) state = false
touches_memory (Host Hold) state = false
touches_memory what state = true

-- the slot over another memory, and what came of an event
abbrev pub over_memory : Memory → SlotState → SlotState
over_memory memory state = record state { memory = memory }

abbrev pub outcome_over : {A : Type 0} → Memory → Outcome A → Outcome A
outcome_over memory outcome = record outcome { state = over_memory memory outcome.state }

-- The bytes of memory have no part in what comes of an event: they stay, and over any others in the same places
-- exactly the same comes of it.
pub record NeedsNoMemory {A : Type 0} (Comes : SlotState → Outcome A → Type 0) (old : SlotState) : Type 0 where
  pub stays : (outcome : Outcome A) → Comes old outcome → outcome.state.memory ≡ old.memory
  pub same :
      (outcome : Outcome A) (memory : Memory) → SameRange old.memory memory
      → outcome.state.memory ≡ old.memory
      → Comes old outcome ↔ Comes (over_memory memory old) (outcome_over memory outcome)

-- a board in which a slot, which was in this state, has another memory, and nothing else is other
abbrev pub world_over : ℕ → SlotState → Memory → World → World
world_over slot state memory world = record world {
  slots = slice_set world.slots slot (over_memory memory state);
}
