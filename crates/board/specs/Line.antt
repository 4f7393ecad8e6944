-- Lines of events, and what each slot sees of one: its own events, as if it were alone.
use Rattle.std.specs.Prelude.{◌≡◌, ◌≢◌, ◌↔◌, ℕ, ◌≤◌, ◌==◌, false, List, ◌++◌, map, filter, take, All, Some, Ok, Err, Result}
use Rattle.std.specs.List.{slice_get}
use Rattle.board.specs.declared.event.Event.{Event}
use Rattle.board.specs.declared.event.EventKind.{EventKind}
use Rattle.board.specs.declared.reply.Reply.TheVariants.{NoMemory}
use Rattle.board.specs.declared.reply.Record.{Record}
use Rattle.board.specs.declared.reply.RunStop.{RunStop}
use Rattle.board.specs.Image.{Health}
use Rattle.board.specs.Machine.{RunsOnItsOwn, record_of}
use Rattle.board.specs.Outcome.{Outcome}
use Rattle.board.specs.Slot.{AreInterruptWords, SlotState, BoardSlot}
use Rattle.board.specs.Steps.{HoldsAlong, IsAnsweredBy, LeadTo}
use Rattle.board.specs.World.{World, MayGive, Step, bad_slot}

-- One event that was handled: the event, its record, and what can be seen of the board after it.
pub record Move (A : Type 0) : Type 0 where
  pub event : Event A
  pub written : Record A
  pub after : World

abbrev pub events_of : {A : Type 0} → List (Move A) → List (Event A)
events_of moves = map (λ move. move.event) moves

abbrev pub records_of : {A : Type 0} → List (Move A) → List (Record A)
records_of moves = map (λ move. move.written) moves

-- the moves lead from one world to another, each by a step that its event may take
abbrev pub IsLine : {A : Type 0} → World → List (Move A) → World → Type 0
IsLine old moves new =
    LeadTo (λ world move. Step world move.event move.written move.after) (λ move. move.after) old moves new

-- what guest g does, in order
abbrev pub own_events : {A : Type 0} → ℕ → List (Event A) → List (EventKind A)
own_events g events = map (λ event. event.what) (filter (λ event. event.slot == g) events)

-- what guest g is told, in order
abbrev pub own_records : {A : Type 0} → ℕ → List (Record A) → List (Record A)
own_records g written = filter (λ entry. entry.slot == g) written

-- An event of g's met no refusal: memory was found for it, and no call of the image failed in it.
-- Events of others may fail as they like.
pub record IsUndisturbed {A : Type 0} (g : ℕ) (old : World) (move : Move A) : Type 0 where
  pub memory : move.event.slot ≡ g → move.written.reply ≢ NoMemory
  pub image : move.event.slot ≡ g → move.after.health.failures ≡ old.health.failures

-- no event of g's met a refusal
abbrev pub IsQuiet : {A : Type 0} → ℕ → World → List (Move A) → Type 0
IsQuiet g old moves = HoldsAlong (IsUndisturbed g) (λ move. move.after) old moves

-- Guest g, which was in this state, is told what it would be told alone, and its state afterwards is
-- what it would be alone: its own events decide both, whatever others did in between.
pub record RunsAlone {A : Type 0} (g : ℕ) (state : SlotState) (moves : List (Move A))
    (new : World) : Type 0 where
  pub last : SlotState
  pub own :
      RunsOnItsOwn g state (own_events g (events_of moves)) (own_records g (records_of moves)) last
  pub state_after : slice_get new.slots g ≡ Some last

-- guest g sees of the line what it would see alone
abbrev pub IsAlone : {A : Type 0} → ℕ → World → List (Move A) → World → Type 0
IsAlone g old moves new =
    (state : SlotState) → slice_get old.slots g ≡ Some state → RunsAlone g state moves new

-- ---- whatever the guest meets

-- Guest g does this in this state: a record that it may be told, and the state after it, whatever it meets of
-- refusals.
pub record MayBeTold {A : Type 0} (g : ℕ) (state : SlotState) (what : EventKind A) (written : Record A)
    (after : SlotState) : Type 0 where
  pub before : Health
  pub behind : Health
  pub outcome : Outcome A
  pub given : MayGive state what before behind outcome
  pub recorded : written ≡ record_of g outcome
  pub left : after ≡ outcome.state

-- Guest g is told what it may be told alone, and left as it may be.
pub record RunsAsItMay {A : Type 0} (g : ℕ) (state : SlotState) (moves : List (Move A))
    (new : World) : Type 0 where
  pub last : SlotState
  pub own :
      IsAnsweredBy (MayBeTold g) state (own_events g (events_of moves)) (own_records g (records_of moves)) last
  pub state_after : slice_get new.slots g ≡ Some last

-- ---- two lines

-- guest g has equal records in two lines, and afterwards equal states
pub record SeesTheSame {A : Type 0} (g : ℕ) (moves : List (Move A)) (new : World)
    (moves' : List (Move A)) (new' : World) : Type 0 where
  pub records : own_records g (records_of moves) ≡ own_records g (records_of moves')
  pub state_after : slice_get new.slots g ≡ slice_get new'.slots g

-- what is noted of guest g says whether an event of it has met a refusal: before the line, or in it
abbrev pub IsNoted : {A : Type 0} → ℕ → World → List (Move A) → World → Type 0
IsNoted g old moves new =
    (slice_get new.disturbed g ≡ Some false)
    ↔ ((slice_get old.disturbed g ≡ Some false) × IsQuiet g old moves)

-- no record of g's says that memory was wanting
abbrev pub HadMemory : {A : Type 0} → ℕ → List (Record A) → Type 0
HadMemory g written = All (λ entry. entry.slot ≡ g → entry.reply ≢ NoMemory) written

-- its interrupt words have no bits but those that a device may set
abbrev pub HasInterruptWords : {A : Type 0} → Record A → Type 0
HasInterruptWords written = AreInterruptWords written.block_irq written.console_irq

-- a record of a slot that isn't one of so many is that of an event of a slot that isn't there
abbrev pub AnswersMissing : {A : Type 0} → ℕ → Record A → Type 0
AnswersMissing slots written = slots ≤ written.slot → written ≡ bad_slot written.slot

-- A run from one world to another over these events, whose records were added to those before it.
-- Every guest whose own events met no refusal sees what it would see alone. Which guests those are is
-- noted. Where no call of the image failed in the whole run, they are those without a record of NoMemory.
pub record IsRun {A : Type 0} (old new : World) (events : List (Event A))
    (before after : List (Record A)) : Type 0 where
  pub moves : List (Move A)
  pub line : IsLine old moves new
  pub events_are : events_of moves ≡ events
  pub records_are : after ≡ before ++ records_of moves
  pub alone : (g : ℕ) → IsQuiet g old moves → IsAlone g old moves new
  pub noted : (g : ℕ) → IsNoted g old moves new
  pub quiet :
      new.health.failures ≡ old.health.failures →
      (g : ℕ) → HadMemory g (records_of moves) → IsQuiet g old moves

-- the events that a run did: all of them, or those before the one that it stopped at
abbrev pub events_done : {A : Type 0} → Result (Unit {0}) RunStop → List (Event A) → List (Event A)
events_done (Ok _) events = events
events_done (Err stop) events = take stop.done events

-- every slot that none of these events is of is kept as it was
abbrev pub KeepsIdle : {A : Type 0} → List (Event A) → List BoardSlot → List BoardSlot → Type 0
KeepsIdle events old new =
    (other : ℕ) → All (λ event. event.slot ≢ other) events → slice_get new other ≡ slice_get old other
