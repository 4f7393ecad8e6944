-- Why one line is refused, once its word is known: what a function that reads its fields answers.
use Rattle.std.specs.Prelude.{◌≡◌, ◌⊎◌, ℕ, ◌^◌, ◌<◌, ◌∷◌, ◌++◌, [], nat_lt, Bool, true, List, length}
use Rattle.trace.specs.declared.fault.FaultKind.{FaultKind}
use Rattle.trace.specs.declared.fault.FaultKind.TheVariants as kind
use Rattle.board.specs.declared.event.Event.{Event}
use Rattle.trace.specs.Printable.{EventInRange, IsPrintableKind, IsPrintableSlot}
use Rattle.trace.specs.Cuts.{lines_of, fields_of}
use Rattle.trace.specs.Faults.{AllSay, AreAsMany, IsHeader, MayStand, first_field, other_fields}
use Rattle.trace.specs.Text.{Content, header, cache_fields, slot_fields, event_fields, word_for}
use Rattle.trace.specs.Printable.{SlotInRange}
use Rattle.trace.specs.declared.format.Format.{Format}
use Rattle.board.specs.declared.spec.SlotSpec.{SlotSpec}
use Rattle.trace.specs.declared.read.entry.Entry.{Entry}
use Rattle.trace.specs.declared.read.entry.Entry.TheVariants as entry
use Rattle.trace.specs.declared.word.Word.{Word}
use Rattle.trace.specs.declared.word.Word.TheVariants.{Cache, Slot}
use Rattle.trace.specs.declared.read.parsed_event.ParsedEvent.{ParsedEvent}
use Rattle.trace.specs.ParsedEvent.{IsFineParsed, parsed_fields}
use Rattle.trace.specs.Words.{IsWordOf, spelled, shapes}

-- an event that its integers admit and that has a line
pub record IsFine {A : Type 0} (e : Event A) : Type 0 where
  pub fits : EventInRange e
  pub printable : IsPrintableKind e.what

-- the fields after a word fail this check, and pass those before it
abbrev pub RefusesFields : Format → Word → List (List ℕ) → FaultKind → Type 0
RefusesFields format word fields kind.Fields = ¬ AreAsMany format word fields
RefusesFields format word fields kind.Number = AreAsMany format word fields
    × (¬ AllSay kind.Number (shapes format word fields) fields)
RefusesFields format word fields kind.Choice =
    AreAsMany format word fields × AllSay kind.Number (shapes format word fields) fields
    × (¬ AllSay kind.Choice (shapes format word fields) fields)
RefusesFields format word fields kind.Bytes =
    AreAsMany format word fields × AllSay kind.Number (shapes format word fields) fields
    × AllSay kind.Choice (shapes format word fields) fields
    × (¬ AllSay kind.Bytes (shapes format word fields) fields)
RefusesFields format word fields _ = ⊥

-- a line after the second is refused, where events may have begun before it: it has no word of the format,
-- or is a slot after an event, or its fields are refused
pub record RefusesAfterWord (format : Format) (begun : Bool) (line : List ℕ)
    (fault : FaultKind) : Type 0 where
  pub word : Word
  pub may : MayStand 3 word
  pub of_format : IsWordOf format word
  pub first : first_field line ≡ spelled word
  pub ordered : begun ≡ true → word ≡ Slot → ⊥
  pub refused : RefusesFields format word (other_fields line) fault

abbrev pub RefusesLine : Format → Bool → List ℕ → FaultKind → Type 0
RefusesLine format begun line kind.Word = (word : Word) → MayStand 3 word → IsWordOf format word
    → ¬ (first_field line ≡ spelled word)
RefusesLine format begun line kind.Order = (begun ≡ true) × (first_field line ≡ spelled Slot)
RefusesLine format begun line fault = RefusesAfterWord format begun line fault

-- the fields of what was read
abbrev pub entry_fields : {A : Type 0} → Format → Entry A → List (List ℕ)
entry_fields format (entry.Slot s) = slot_fields format s
entry_fields format (entry.Event s) = parsed_fields s

-- a slot that its integers admit and that has a line
pub record IsFineSlot (format : Format) (s : SlotSpec) : Type 0 where
  pub fits : SlotInRange s
  pub printable : IsPrintableSlot format s

-- what was read has a line whose word is of the format, and a slot comes before every event
abbrev pub IsFineEntry : {A : Type 0} → Format → Bool → Entry A → Type 0
IsFineEntry format begun (entry.Slot s) = IsFineSlot format s × (begun ≡ true → ⊥)
IsFineEntry format begun (entry.Event s) = IsFineParsed s × IsWordOf format (word_for s.event.what)

-- the first line is cut off, or isn't the header
pub record IsOtherHead (text : List ℕ) : Type 0 where
  pub head : List ℕ
  pub rest : List ℕ
  pub cut : lines_of text ≡ head ∷ lines_of rest
  pub other : IsHeader head → ⊥

abbrev pub RefusesHead : List ℕ → FaultKind → Type 0
RefusesHead text kind.Cut = lines_of text ≡ text ∷ []
RefusesHead text kind.Header = IsOtherHead text
RefusesHead text _ = ⊥

-- a text whose first line is the header of this format
pub record IsFirst (text : List ℕ) (format : Format) (rest : List ℕ) : Type 0 where
  pub ended : text ≡ header format ++ 10 ∷ rest

-- a text whose first line says the cache
pub record IsSecond (text : List ℕ) (cache : ℕ) (rest : List ℕ) : Type 0 where
  pub fits : cache < 2 ^ 32
  pub line : List ℕ
  pub ended : text ≡ line ++ 10 ∷ rest
  pub fields : fields_of line ≡ cache_fields cache

-- a text whose first two lines say the format and the cache
pub record IsHead (text : List ℕ) (format : Format) (cache : ℕ) (rest : List ℕ) : Type 0 where
  pub second : List ℕ
  pub format_is : IsFirst text format second
  pub cache_is : IsSecond second cache rest

-- a text whose first line is ended and begins with another word than the cache's
pub record IsOtherWord (text : List ℕ) : Type 0 where
  pub line : List ℕ
  pub rest : List ℕ
  pub cut : lines_of text ≡ line ∷ lines_of rest
  pub other : ¬ (first_field line ≡ spelled Cache)

-- a text whose first line has that word, but for its fields
pub record RefusesCache (format : Format) (text : List ℕ) (fault : FaultKind) : Type 0 where
  pub line : List ℕ
  pub rest : List ℕ
  pub cut : lines_of text ≡ line ∷ lines_of rest
  pub first : first_field line ≡ spelled Cache
  pub refused : RefusesFields format Cache (other_fields line) fault

-- the second line, at the front of a text, is refused
abbrev pub RefusesSecond : Format → List ℕ → FaultKind → Type 0
RefusesSecond format text kind.Cut = lines_of text ≡ text ∷ []
RefusesSecond format text kind.Word = IsOtherWord text
RefusesSecond format text fault = RefusesCache format text fault

-- whether an event was read
abbrev pub has_begun : {A : Type 0} → Content A → Bool
has_begun c = nat_lt 0 (length c.events)

-- a trace with one slot more, and one with one event more
abbrev pub with_slot : {A : Type 0} → Content A → SlotSpec → Content A
with_slot c s = record c { slots = c.slots ++ s ∷ [] }

abbrev pub with_event : {A : Type 0} → Content A → Event A → Content A
with_event c e = record c { events = c.events ++ e ∷ [] }

-- the line is that of a slot, before all events
pub record SaysSlot (format : Format) (begun : Bool) (line : List ℕ) (s : SlotSpec) : Type 0 where
  pub fields : fields_of line ≡ slot_fields format s
  pub fine : IsFineSlot format s
  pub early : begun ≡ true → ⊥

-- the line is that of an event, whose word is of the format
pub record SaysEvent {A : Type 0} (format : Format) (line : List ℕ) (e : Event A) : Type 0 where
  pub fields : fields_of line ≡ event_fields e
  pub fine : IsFine e
  pub of_format : IsWordOf format (word_for e.what)

-- the new trace is the old one with the slot that the line says, or with the event
pub record AddsSlot {A : Type 0} (old : Content A) (line : List ℕ) (new : Content A) : Type 0 where
  pub slot : SlotSpec
  pub parsed : SaysSlot old.format (has_begun old) line slot
  pub added : new ≡ with_slot old slot

pub record AddsEvent {A : Type 0} (old : Content A) (line : List ℕ) (new : Content A) : Type 0 where
  pub event : Event A
  pub parsed : SaysEvent old.format line event
  pub added : new ≡ with_event old event

abbrev pub AddsLine : {A : Type 0} → Content A → List ℕ → Content A → Type 0
AddsLine old line new = AddsSlot old line new ⊎ AddsEvent old line new

-- the event that was said was added
pub record AddsParsed {A : Type 0} (parsed : ParsedEvent A) (old new : List (Event A)) : Type 0 where
  pub event : Event A
  pub fields : event_fields event ≡ parsed_fields parsed
  pub word : word_for event.what ≡ word_for parsed.event.what
  pub fine : IsFine event
  pub added : new ≡ old ++ event ∷ []
