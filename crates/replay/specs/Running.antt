-- Running the events of lines that were validated, one after another.
use Rattle.std.specs.Prelude.{◌≡◌, ◌≤◌, ⊤, ℕ, Bool, List, [], Option, None, Some, Result, Ok, Err}
use Rattle.std.specs.Io.KnownBytes.{Keeps}
use Rattle.std.specs.List.{slice_get}
use Rattle.guest_memory.specs.Memory.{Inside, part_of}
use Rattle.sector_cache.specs.Disk.{Disk}
use Rattle.board.specs.declared.event.Event.{Event}
use Rattle.board.specs.declared.event.EventKind.{EventKind}
use Rattle.board.specs.declared.event.EventKind.TheVariants.{Device}
use Rattle.board.specs.declared.reply.Reply.{Reply}
use Rattle.block_device.specs.Flights.{InFlight}
use Rattle.device_list.specs.List.{disk_at}
use Rattle.board.specs.declared.slot_disk.SlotDisk.{SlotDisk}
use Rattle.board.specs.declared.slot_disk.SlotDisk.TheVariants.{Own, Further}
use Rattle.board.specs.Backing.{tags_in}
use Rattle.board.specs.Hosting.{tag_in}
use Rattle.board.specs.Image.{Tells}
use Rattle.board.specs.Slot.{BoardSlot, interrupt_words}
use Rattle.board.specs.World.{Answers, BoardState, extents_of, world_of}
use Rattle.trace.specs.declared.read.parsed_event.ParsedEvent.{ParsedEvent}
use Rattle.trace.specs.Events.{TakesEvent}
use Rattle.trace.specs.Validating.{parsed_len}
use Rattle.replay.specs.declared.fault.ReplayFault.{ReplayFault}
use Rattle.replay.specs.declared.fault.ReplayFault.TheVariants.{Write, NoMemory}
use Rattle.trace.specs.Refusals.{IsFine}
use Rattle.trace.specs.ParsedEvent.{parsed_fields}
use Rattle.trace.specs.Text.{event_fields}
use Rattle.replay.specs.Telling.{SendsRun, completed_in, device_in, disk_tags}

-- these bytes lie in the memory of a slot that is there
pub record IsPart {I : Type 0} (board : BoardState I) (slot addr len : ℕ) (part : List ℕ) : Type 0 where
  pub found : BoardSlot
  pub here : slice_get board.slots slot ≡ Some found
  pub inside : Inside found.memory addr len
  pub is : part ≡ part_of found.memory addr len

-- the interrupt words of a slot's windows, and zeros where there is no such slot
abbrev pub words_of : Option BoardSlot → ℕ × ℕ
words_of None = (0, 0)
words_of (Some slot) = interrupt_words slot

-- a slot's own disk, or the further one of a number
abbrev pub disk_named : Option ℕ → SlotDisk
disk_named None = Own
disk_named (Some n) = Further n

-- what is in flight of it by its tags, where the slot is there
abbrev pub tags_of : Option ℕ → Option BoardSlot → List (Option InFlight)
tags_of whose None = []
tags_of None (Some slot) = tags_in slot.host
tags_of (Some n) (Some slot) = disk_tags (disk_at n slot.devices)

-- the same of the further disk that is named, if one is
abbrev pub further_tags : Option ℕ → Option BoardSlot → List (Option InFlight)
further_tags None slot = []
further_tags (Some n) slot = tags_of (Some n) slot

-- what goes on of a board and its image while an event is handled
pub record KeepsTelling {I : Type 0} (disk : I → Disk) (old new : BoardState I) : Type 0 where
  pub tells : Tells (disk old.image) → Tells (disk new.image)
  pub extents : extents_of new.slots ≡ extents_of old.slots

-- a board answered an event of a slot
pub record AnswersEvent {A I : Type 0} (disk : I → Disk) (old : BoardState I) (event : Event A)
    (reply : Reply A) (out : List ℕ) (new : BoardState I) : Type 0 where
  pub answers : Tells (disk old.image) → Answers (world_of disk old) event reply [] out (world_of disk new)
  pub keeps : KeepsTelling disk old new

-- an event is done to a further device
abbrev pub IsForDevice : {A : Type 0} → EventKind A → Type 0
IsForDevice (Device n what) = ⊤
IsForDevice what = ⊥

-- it answered the event that was said
pub record AnswersParsed {A I : Type 0} (disk : I → Disk) (parsed : ParsedEvent A) (old : BoardState I)
    (reply : Reply A) (out : List ℕ) (new : BoardState I) : Type 0 where
  pub event : Event A
  pub slot : event.slot ≡ parsed.event.slot
  pub fields : event_fields event ≡ parsed_fields parsed
  pub fine : IsFine event
  pub tag : tag_in event.what ≡ tag_in parsed.event.what
  pub device : device_in event.what ≡ device_in parsed.event.what
  pub completed : completed_in event.what ≡ completed_in parsed.event.what
  pub answered : AnswersEvent disk old event reply out new

-- the event that was said was run, of which this holds
pub record RunsParsed {A : Type 0} (parsed : ParsedEvent A) (Run : Event A → Type 0) : Type 0 where
  pub event : Event A
  pub fields : event_fields event ≡ parsed_fields parsed
  pub fine : IsFine event
  pub run : Run event

-- the bytes of the event that the first of these lines says have room
abbrev pub HasRoomFor : Type 0 → List ℕ → ℕ → Type 0
HasRoomFor A lines room = (parsed : ParsedEvent A) (after : List ℕ) → TakesEvent lines parsed after
    → parsed_len parsed ≤ room

-- that event was taken off and run
pub record RunsLine (A : Type 0) (lines rest : List ℕ) (Run : Event A → Type 0) : Type 0 where
  pub parsed : ParsedEvent A
  pub taken : TakesEvent lines parsed rest
  pub ran : RunsParsed parsed Run

-- What comes of a run whose text goes through a buffer of its own: it is written whole, or the writer fails;
-- where there is no memory for the buffer nothing is run.
abbrev pub AfterLines : {A I : Type 0} → Bool → (I → Disk) → List (Event A) → BoardState I → BoardState I
    → Option (List ℕ) → Option (List ℕ) → Result (Unit {0}) ReplayFault → Type 0
AfterLines hosted disk events old new before after (Ok _) =
    SendsRun hosted disk old new events before after (Some []) (Some [])
AfterLines hosted disk events old new before after (Err Write) =
    SendsRun hosted disk old new events before after (Some []) None
AfterLines hosted disk events old new before after (Err NoMemory) = (new ≡ old) × Keeps before after
AfterLines hosted disk events old new before after (Err _) = ⊥
