-- What the guests of a trace are told, as text: a record for each event, and in a hosted trace what the host is
-- then asked to do.
use Rattle.std.specs.Prelude.{◌≡◌, ℕ, suc, Bool, false, true, Option, None, Some, List, [], ◌∷◌, ◌++◌, get_or, map, set}
use Rattle.std.specs.List.{slice_get}
use Rattle.sector_cache.specs.Disk.{Disk}
use Rattle.block_device.specs.Flights.{InFlight}
use Rattle.board.specs.declared.event.Event.{Event}
use Rattle.board.specs.declared.event.EventKind.{EventKind}
use Rattle.board.specs.declared.event.EventKind.TheVariants as what
use Rattle.board.specs.declared.event.DeviceEvent.{DeviceEvent}
use Rattle.board.specs.declared.event.DeviceEvent.TheVariants as device
use Rattle.board.specs.declared.reply.Record.{Record}
use Rattle.board.specs.declared.reply.Reply.{Reply}
use Rattle.device_list.specs.List.{disk_at}
use Rattle.hosted_disk.specs.Disk.{HostedDisk}
use Rattle.board.specs.Backing.{tags_in}
use Rattle.board.specs.Hosting.{tag_in, tag_of}
use Rattle.board.specs.Image.{Tells}
use Rattle.board.specs.Line.{IsLine, Move, events_of}
use Rattle.board.specs.Slot.{SlotState}
use Rattle.board.specs.World.{BoardState, World, extents_of, world_of}
use Rattle.trace.specs.Asked.{Begun, asked_line}
use Rattle.trace.specs.Records.{entry_of, record_line}
use Rattle.trace.specs.Sends.{Sends}
use Rattle.trace.specs.Text.{joined}

-- ---- what began

-- what is in flight of a further disk by its tags, where it is there
abbrev pub disk_tags : Option HostedDisk → List (Option InFlight)
disk_tags None = []
disk_tags (Some disk) = disk.tags

-- what is in flight of a slot's own disk, or of the further one of a number, where the slot is there
abbrev pub tags_of_state : Option ℕ → Option SlotState → List (Option InFlight)
tags_of_state whose None = []
tags_of_state None (Some state) = tags_in state.host
tags_of_state (Some n) (Some state) = disk_tags (disk_at n state.devices)

abbrev pub tags_at : Option ℕ → List SlotState → ℕ → List (Option InFlight)
tags_at whose slots h = tags_of_state whose (slice_get slots h)

-- the tags that stay taken while an event is handled: all but the one that it completes
abbrev pub staying : Option ℕ → List (Option InFlight) → List (Option InFlight)
staying None tags = tags
staying (Some tag) tags = set tags tag None

-- what the host is told of what is in a tag, of a slot's own disk or of the further one of a number
abbrev pub told_by_tag : Option ℕ → ℕ → Option InFlight → List Begun
told_by_tag whose tag None = []
told_by_tag whose tag (Some here) =
    record { device = whose; tag = tag; operation = here.flight.operation; runs = here.runs } ∷ []

-- What is in a tag behind an event began with it where the tag did not stay taken.
abbrev pub begun_by_tag : Option ℕ → ℕ → Option InFlight → Option InFlight → List Begun
begun_by_tag whose tag (Some stayed) behind = []
begun_by_tag whose tag None behind = told_by_tag whose tag behind

-- those of the tags from this one on, beside what stayed in all tags
abbrev pub begun_from : Option ℕ → ℕ → List (Option InFlight) → List (Option InFlight) → List Begun
begun_from whose tag stayed [] = []
begun_from whose tag stayed (behind ∷ others) =
    begun_by_tag whose tag (get_or stayed tag None) behind ++ begun_from whose (suc tag) stayed others

-- what began with an event that completed this tag or none, from what is in flight before it and behind it
abbrev pub begun_between : Option ℕ → Option ℕ → List (Option InFlight) → List (Option InFlight) → List Begun
begun_between whose completed before behind = begun_from whose 0 (staying completed before) behind

-- the further device that an event names, and the tag of its operation that it completes
abbrev pub device_in : {A : Type 0} → EventKind A → Option ℕ
device_in (what.Device n done) = Some n
device_in other = None

abbrev pub completed_by : {A : Type 0} → DeviceEvent A → Option ℕ
completed_by (device.Host said) = tag_of said
completed_by done = None

abbrev pub completed_in : {A : Type 0} → EventKind A → Option ℕ
completed_in (what.Device n done) = completed_by done
completed_in other = None

-- what began of a further disk, where one is named
abbrev pub further_begun : Option ℕ → Option ℕ → ℕ → List SlotState → List SlotState → List Begun
further_begun None completed h old new = []
further_begun (Some n) completed h old new =
    begun_between (Some n) completed (tags_at (Some n) old h) (tags_at (Some n) new h)

-- The operations that began with an event of slot h, from the states before it and after it: those of the slot's own
-- disk, and behind them those of the further disk that the event names.
abbrev pub begun_at : {A : Type 0} → ℕ → EventKind A → List SlotState → List SlotState → List Begun
begun_at h what old new =
    begun_between None (tag_in what) (tags_at None old h) (tags_at None new h)
    ++ further_begun (device_in what) (completed_in what) h old new

-- ---- what is told

-- what an event came to: its record, and the operations that began with it
pub record Told (A : Type 0) : Type 0 where
  pub written : Record A
  pub asked : List Begun

-- by its parts, of which the words are the block window's and the console's
abbrev pub told_of : {A : Type 0} → ℕ → Reply A → List ℕ → ℕ × ℕ → List Begun → Told A
told_of slot reply output words asked =
    record { written = entry_of slot reply output words; asked = asked }

abbrev pub told_by : {A : Type 0} → World → Move A → Told A
told_by old move = record {
  written = move.written;
  asked = begun_at move.event.slot move.event.what old.slots move.after.slots;
}

-- what the moves of a line came to, from this world on
abbrev pub told_along : {A : Type 0} → World → List (Move A) → List (Told A)
told_along old [] = []
told_along old (move ∷ moves) = told_by old move ∷ told_along move.after moves

abbrev pub records_in : {A : Type 0} → List (Told A) → List (Record A)
records_in told = map (λ one. one.written) told

-- A line from one world to another over these events, in which this was told.
pub record LineTelling {A : Type 0} (old new : World) (events : List (Event A)) (told : List (Told A))
    : Type 0 where
  pub moves : List (Move A)
  pub line : IsLine old moves new
  pub events_are : events_of moves ≡ events
  pub told_are : told ≡ told_along old moves

-- ---- its text

-- the line of a record, by whether the trace is hosted
abbrev pub told_line : {A : Type 0} → Bool → Told A → List ℕ
told_line false told = record_line told.written
told_line true told = asked_line told.written told.asked

abbrev pub told_text : {A : Type 0} → Bool → List (Told A) → List ℕ
told_text hosted told = joined (map (told_line hosted) told)

-- A run from one board to another over these events; the text of what is told is added to what waits for the
-- writer.
pub record SendsRun {A I : Type 0} (hosted : Bool) (disk : I → Disk) (old new : BoardState I)
    (events : List (Event A)) (before after waiting waiting' : Option (List ℕ)) : Type 0 where
  pub told : List (Told A)
  pub run : Tells (disk old.image) → LineTelling (world_of disk old) (world_of disk new) events told
  pub tells : Tells (disk old.image) → Tells (disk new.image)
  pub extents : extents_of new.slots ≡ extents_of old.slots
  pub sent : Sends before after waiting (told_text hosted told) waiting'
