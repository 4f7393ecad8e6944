-- The one-slot machine: what a guest would see if it were alone, one event after another.
use Rattle.std.specs.Prelude.{◌≡◌, ℕ, false, Option, Some, None, List}
use Rattle.mmio_window.specs.Interrupts.{interrupt_bits}
use Rattle.board.specs.declared.event.EventKind.{EventKind}
use Rattle.board.specs.declared.reply.Record.{Record}
use Rattle.hosted_disk.specs.Disk.{HostedDisk}
use Rattle.board.specs.Hosting.{GivesOnHost}
use Rattle.board.specs.Image.{Health}
use Rattle.board.specs.Outcome.{Outcome}
pub use Rattle.board.specs.OverImage.{memory_read, memory_written, window_of, config_at, register, with_write, action_at, task_at, with_input, resized, readied, GivesOverImage}
use Rattle.board.specs.Slot.{SlotState}
use Rattle.board.specs.Steps.{IsAnsweredBy}

-- What comes of an event where memory is found for it and no call of the image fails, by who has the guest's
-- disk.
abbrev pub GivesBy : {A : Type 0} → Option HostedDisk → SlotState → EventKind A → Health → Health → Outcome A
    → Type 0
GivesBy None state what before after outcome = GivesOverImage state what before after outcome
GivesBy (Some disk) state what before after outcome =
    GivesOnHost (GivesOverImage state what before before) state what before after outcome

abbrev pub Gives : {A : Type 0} → SlotState → EventKind A → Health → Health → Outcome A → Type 0
Gives state what before after outcome = GivesBy state.host state what before after outcome

-- ---- a guest alone

-- No call failed, and no write waits for a flush. A guest never sees how its image fares, so each event
-- of a guest that is alone is taken from here.
abbrev pub at_rest : Health
at_rest = record { failures = 0; dirty = false }

-- what comes of one event of a guest that is alone
pub record IsNext {A : Type 0} (state : SlotState) (what : EventKind A) (outcome : Outcome A) : Type 0 where
  pub after : Health
  pub gives : Gives state what at_rest after outcome

-- InterruptStatus of both windows (4.2.2)
abbrev pub block_irq : SlotState → ℕ
block_irq state = interrupt_bits state.block.interrupts

abbrev pub console_irq : SlotState → ℕ
console_irq state = interrupt_bits state.console.interrupts

-- the record of an event of slot g that came out so
abbrev pub record_of : {A : Type 0} → ℕ → Outcome A → Record A
record_of g outcome = record {
  slot = g;
  reply = outcome.reply;
  output = outcome.output;
  block_irq = block_irq outcome.state;
  console_irq = console_irq outcome.state;
}

-- guest g, alone in this state, does this: what comes of it, the record of that, and the state after it
pub record IsToldAlone {A : Type 0} (g : ℕ) (state : SlotState) (what : EventKind A) (written : Record A)
    (after : SlotState) : Type 0 where
  pub outcome : Outcome A
  pub is_next : IsNext state what outcome
  pub recorded : written ≡ record_of g outcome
  pub left : after ≡ outcome.state

-- Guest g, alone from this state on, does these things: it is told these records, and its state
-- afterwards is the last one.
abbrev pub RunsOnItsOwn : {A : Type 0} → ℕ → SlotState → List (EventKind A) → List (Record A) → SlotState
    → Type 0
RunsOnItsOwn g state events records last = IsAnsweredBy (IsToldAlone g) state events records last
