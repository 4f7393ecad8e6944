-- A text that was validated whole: what is kept of it is what stands before its events, and their lines.
use Rattle.std.specs.Prelude.{◌≡◌, ◌==◌, ◌⊎◌, ℕ, ◌/◌, ◌≤◌, Bool, not, List, [], ◌∷◌, ◌++◌, All, length, map}
use Rattle.board.specs.declared.event.Event.{Event}
use Rattle.board.specs.declared.event.EventKind.{EventKind}
use Rattle.board.specs.declared.event.EventKind.TheVariants as event
use Rattle.board.specs.declared.event.DeviceEvent.{DeviceEvent}
use Rattle.board.specs.declared.event.DeviceEvent.TheVariants as device
use Rattle.board.specs.declared.spec.SlotSpec.{SlotSpec}
use Rattle.trace.specs.declared.format.Format.{Format}
use Rattle.trace.specs.declared.fault.FaultKind.{FaultKind}
use Rattle.trace.specs.declared.fault.FaultKind.TheVariants as kind
use Rattle.trace.specs.Cuts.{lines_of}
use Rattle.trace.specs.declared.read.validating.Validated.{Validated}
use Rattle.trace.specs.declared.read.parsed_event.ParsedEvent.{ParsedEvent}
use Rattle.trace.specs.Refusals.{IsFine, RefusesLine, SaysEvent, SaysSlot}
use Rattle.trace.specs.ParsedEvent.{IsTaken}
use Rattle.trace.specs.Reading.{IsTraceOf}
use Rattle.trace.specs.Text.{Content, event_line, joined}

-- how many bytes go to a further device
abbrev pub device_bytes_len : {A : Type 0} → DeviceEvent A → ℕ
device_bytes_len (device.Supply bs) = length bs
device_bytes_len (device.Receive bs) = length bs
device_bytes_len _ = 0

-- how many bytes an event has, and how many are still spelled
abbrev pub bytes_len : {A : Type 0} → EventKind A → ℕ
bytes_len (event.MemWrite addr bs) = length bs
bytes_len (event.Input bs) = length bs
bytes_len (event.Restore bs) = length bs
bytes_len (event.Device n done) = device_bytes_len done
bytes_len _ = 0

abbrev pub parsed_len : {A : Type 0} → ParsedEvent A → ℕ
parsed_len s = length s.bytes.now / 2

-- the text's first line is one that is taken off at once: it spells so many bytes, and this follows it
pub record IsSkipped (A : Type 0) (text : List ℕ) (len : ℕ) (after : List ℕ) : Type 0 where
  pub parsed : ParsedEvent A
  pub taken : IsTaken text parsed after
  pub spelled : len ≡ parsed_len parsed

-- these are the lines of the events
pub record AreLinesOf {A : Type 0} (events : List (Event A)) (lines : List ℕ) : Type 0 where
  pub fine : All IsFine events
  pub spelled : lines ≡ joined (map event_line events)

-- there is room for the bytes of each event
abbrev pub HaveRoom : {A : Type 0} → ℕ → List (Event A) → Type 0
HaveRoom room events = All (λ event. bytes_len event.what ≤ room) events

-- the lines of some events, whose bytes have room
pub record AreEventLines (A : Type 0) (room : ℕ) (lines : List ℕ) : Type 0 where
  pub events : List (Event A)
  pub lines_of : AreLinesOf events lines
  pub fit : HaveRoom room events

-- what was validated, without where it lies in memory
pub record Validation : Type 0 where
  pub format : Format
  pub cache : ℕ
  pub slots : List SlotSpec
  pub events : List ℕ
  pub longest : ℕ
  pub longest_line : ℕ

abbrev pub validation : {A : Type 0} → Validated A → Validation
validation j = record {
  format = j.format;
  cache = j.cache;
  slots = j.slots.items;
  events = j.events.now;
  longest = j.longest;
  longest_line = j.longest_line;
}

-- the text is that of one trace, of which this is kept
pub record IsValidated (A : Type 0) (text : List ℕ) (j : Validation) : Type 0 where
  pub trace : Content A
  pub read : IsTraceOf text trace
  pub format : trace.format ≡ j.format
  pub cache : trace.cache ≡ j.cache
  pub slots : trace.slots ≡ j.slots
  pub lines_of : AreLinesOf trace.events j.events
  pub fit : HaveRoom j.longest trace.events
  pub numbered : 1 ≤ j.longest_line

-- a line was validated: it is that of a slot, before all events, which is kept, or that of an event, whose
-- bytes are counted
pub record ValidatesSlot (begun : Bool) (line after : List ℕ) (old new : Validation) : Type 0 where
  pub slot : SlotSpec
  pub parsed : SaysSlot old.format begun line slot
  pub is : new ≡ record old { slots = old.slots ++ slot ∷ []; events = after }

pub record ValidatesEvent (A : Type 0) (line : List ℕ) (old new : Validation) : Type 0 where
  pub event : Event A
  pub parsed : SaysEvent old.format line event
  pub fits : bytes_len event.what ≤ new.longest
  pub longer : old.longest ≤ new.longest
  pub numbered : 1 ≤ old.longest_line → 1 ≤ new.longest_line
  pub is : new ≡ record old { longest = new.longest; longest_line = new.longest_line }

abbrev pub ValidatesLine : Type 0 → Bool → List ℕ → List ℕ → Validation → Validation → Type 0
ValidatesLine A begun line after old new = ValidatesSlot begun line after old new
    ⊎ ValidatesEvent A line old new

-- whether events may have begun before what is left of a text: their lines begin before it
abbrev pub begun_before : Validation → List ℕ → Bool
begun_before j rest = not (length j.events == length rest)

-- the first line of what is left of a text was validated, and this follows it
pub record ValidatesFirst (A : Type 0) (rest after : List ℕ) (old new : Validation) : Type 0 where
  pub line : List ℕ
  pub ended : rest ≡ line ++ 10 ∷ after
  pub validated : ValidatesLine A (begun_before old rest) line after old new

-- it is refused, or isn't ended
pub record RefusesNext (j : Validation) (rest : List ℕ) (fault : FaultKind) : Type 0 where
  pub line : List ℕ
  pub after : List ℕ
  pub cut : lines_of rest ≡ line ∷ lines_of after
  pub refused : RefusesLine j.format (begun_before j rest) line fault

pub record IsCutOff (rest : List ℕ) (fault : FaultKind) : Type 0 where
  pub last : lines_of rest ≡ rest ∷ []
  pub named : fault ≡ kind.Cut

abbrev pub RefusesFirst : Validation → List ℕ → FaultKind → Type 0
RefusesFirst j rest fault = IsCutOff rest fault ⊎ RefusesNext j rest fault
