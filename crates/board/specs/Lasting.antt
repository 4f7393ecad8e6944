-- What the host of one of a slot's disks says of its medium in the course of the slot, and what the slot's guest is told by it.
use Rattle.std.specs.Prelude.{◌≡◌, ℕ, suc, ◌==◌, ◌&&◌, Bool, true, false, not, if◌then◌else◌, Option, Some, None, is_some, List, [], ◌∷◌, ◌++◌, map, flat_map, get_or, set}
use Rattle.std.specs.List.{slice_get}
use Rattle.guest_memory.specs.Memory.{Inside, part_of}
use Rattle.block_device.specs.declared.operation.Verdict.{Verdict}
use Rattle.block_device.specs.declared.operation.Verdict.TheVariants.{Done, Failed}
use Rattle.block_device.specs.Durable.{Asked, Completion, must_last}
use Rattle.block_device.specs.Flights.{InFlight, IsGivenIn}
use Rattle.board.specs.declared.event.EventKind.{EventKind}
use Rattle.block_device.specs.declared.operation.HostEvent.{HostEvent}
use Rattle.block_device.specs.declared.operation.HostEvent.TheVariants.{Complete, Drop}
use Rattle.board.specs.declared.reply.Record.{Record}
use Rattle.board.specs.HostedDisks.{said_of}
use Rattle.board.specs.Units.{DoesAsSaid, SlotDisk, in_flight_of, unit_queue}
use Rattle.board.specs.Line.{MayBeTold, Move, events_of, own_events, own_records, records_of}
use Rattle.board.specs.Slot.{SlotState}
use Rattle.board.specs.Steps.{LeadTo}
use Rattle.board.specs.World.{World}

-- ---- a course

-- an event of a slot, what it was told, and its state behind it
pub record Passage (A : Type 0) : Type 0 where
  pub what : EventKind A
  pub written : Record A
  pub after : SlotState

-- The passages lead slot g from one state to another, whatever it meets of refusals.
abbrev pub IsCourse : {A : Type 0} → ℕ → SlotState → List (Passage A) → SlotState → Type 0
IsCourse g old passages new =
    LeadTo (λ state passage. MayBeTold g state passage.what passage.written passage.after)
    (λ passage. passage.after) old passages new

-- Slot g, which was in this state, has such a course in a line of a board's steps.
pub record HasCourse {A : Type 0} (g : ℕ) (state : SlotState) (moves : List (Move A)) (new : World) : Type 0 where
  pub passages : List (Passage A)
  pub last : SlotState
  pub course : IsCourse g state passages last
  pub events : map (λ passage. passage.what) passages ≡ own_events g (events_of moves)
  pub records : map (λ passage. passage.written) passages ≡ own_records g (records_of moves)
  pub state_after : slice_get new.slots g ≡ Some last

-- ---- what was in flight beside an operation

-- what the host is asked by this tag, and by all others
abbrev pub asked_in : Option InFlight → List Asked
asked_in None = []
asked_in (Some here) = record { operation = here.flight.operation; runs = here.runs } ∷ []

abbrev pub asked_beside : ℕ → List (Option InFlight) → List Asked
asked_beside tag tags = flat_map asked_in (set tags tag None)

-- Where a course stands: the slot's state, and for each tag what has been in flight beside its operation since
-- that was asked.
pub record Standing : Type 0 where
  pub state : SlotState
  pub beside : ℕ → List Asked

-- whether what the host says ends what is in flight with this tag: its completion does, and a drop
abbrev pub ends_tag : ℕ → Option HostEvent → Bool
ends_tag tag (Some (Complete its verdict)) = its == tag
ends_tag tag (Some Drop) = true
ends_tag tag said = false

-- whether an event leaves an operation of the disk with this tag in flight
abbrev pub stays_in : {A : Type 0} → SlotDisk → ℕ → SlotState → EventKind A → Bool
stays_in disk tag state what =
    is_some (get_or (in_flight_of disk state) tag None) && not (ends_tag tag (said_of disk what))

-- Behind an event, all that is in flight then is beside each other operation. One that stays in flight goes on
-- having beside it what it had.
abbrev pub behind : {A : Type 0} → SlotDisk → Standing → Passage A → Standing
behind disk old passage = record {
  state = passage.after;
  beside = λ tag.
      (if stays_in disk tag old.state passage.what then old.beside tag else [])
      ++ asked_beside tag (in_flight_of disk passage.after);
}

abbrev pub behind_all : {A : Type 0} → SlotDisk → Standing → List (Passage A) → Standing
behind_all disk old [] = old
behind_all disk old (passage ∷ passages) = behind_all disk (behind disk old passage) passages

-- ---- what the host says of its medium

-- an operation as it is completed
abbrev pub completed : InFlight → Verdict → List Asked → Completion
completed here verdict beside =
    record { operation = here.flight.operation; runs = here.runs; verdict = verdict; beside = beside }

-- that of a tag, if one is there
abbrev pub completed_in : Option InFlight → Verdict → List Asked → List Completion
completed_in None verdict beside = []
completed_in (Some here) verdict beside = completed here verdict beside ∷ []

-- All that is in flight is cut short: it counts as failed.
abbrev pub cut_short : List (Option InFlight) → (ℕ → List Asked) → List Completion
cut_short [] beside = []
cut_short (found ∷ tags) beside =
    completed_in found Failed (beside 0) ++ cut_short tags (λ tag. beside (suc tag))

-- what it says by an event: a completion is of the operation in its tag, and a drop cuts all short
abbrev pub said_by : Option HostEvent → SlotDisk → Standing → List Completion
said_by (Some (Complete tag verdict)) disk old =
    completed_in (get_or (in_flight_of disk old.state) tag None) verdict (old.beside tag)
said_by (Some Drop) disk old = cut_short (in_flight_of disk old.state) old.beside
said_by said disk old = []

-- The completions of the disk along a course, in order. What is in flight at its end is cut short.
abbrev pub completions : {A : Type 0} → SlotDisk → Standing → List (Passage A) → List Completion
completions disk old [] = cut_short (in_flight_of disk old.state) old.beside
completions disk old (passage ∷ later) =
    said_by (said_of disk passage.what) disk old ++ completions disk (behind disk old passage) later

-- Whether the operation, once it is done, has the byte on the medium: a FLUSH has each byte there, a stable write
-- each that it writes, but none that something in flight beside it writes.
abbrev pub covers : InFlight → List Asked → ℕ → Bool
covers here beside place = must_last (completed here Done beside) place

-- ---- what the guest is told

-- What an event makes of the chain in flight with this tag: it stays in flight; it is given up, and nothing is
-- written; or the host completed its operation.
pub data Becomes {A : Type 0} (disk : SlotDisk) (tag : ℕ) (here : InFlight) (old : SlotState) (what : EventKind A)
    (new : SlotState) : Type 0 where
  Stays : get_or (in_flight_of disk new) tag None ≡ Some here → Becomes disk tag here old what new
  GivenUp : said_of disk what ≡ Some Drop → DoesAsSaid disk Drop old new → Becomes disk tag here old what new
  Completed :
      (verdict : Verdict) → said_of disk what ≡ Some (Complete tag verdict)
      → DoesAsSaid disk (Complete tag verdict) old new → Becomes disk tag here old what new

-- By this event the chain in flight with this tag is given back, and its guest reads this status: the status has
-- a place in memory, where this stands as the used entry is put.
pub record IsAnswered {A : Type 0} (disk : SlotDisk) (tag : ℕ) (here : InFlight) (old : SlotState) (what : EventKind A)
    (status : ℕ) (new : SlotState) : Type 0 where
  pub there : get_or (in_flight_of disk old) tag None ≡ Some here
  pub place : Inside old.memory here.flight.status 1
  pub verdict : Verdict
  pub said : said_of disk what ≡ Some (Complete tag verdict)
  pub completes : DoesAsSaid disk (Complete tag verdict) old new
  pub given :
      IsGivenIn tag here verdict (unit_queue old.memory completes.before) completes.does.queue.landed
  pub reads : part_of given.completes.gives.done here.flight.status 1 ≡ status ∷ []
