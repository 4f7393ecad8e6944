-- The events of lines that were validated, one after another.
use Rattle.std.specs.Prelude.{◌≡◌, ℕ, ◌+◌, ◌*◌, ◌^◌, ◌<◌, List, ◌∷◌, ◌++◌}
use Rattle.board.specs.declared.event.SlotWindow.{SlotWindow}
use Rattle.board.specs.declared.event.Event.{Event}
use Rattle.hexadecimal.specs.Fields.{IsBytesField}
use Rattle.hexadecimal.specs.Spelling.{fixed, num}
use Rattle.trace.specs.declared.read.parsed_event.ParsedEvent.{ParsedEvent}
use Rattle.trace.specs.Cuts.{fields_of, lines_of}
use Rattle.trace.specs.Refusals.{IsFine}
use Rattle.trace.specs.ParsedEvent.{IsFineParsed, parsed_fields}
use Rattle.trace.specs.Spelling.{window}
use Rattle.trace.specs.Text.{event_line}
use Rattle.trace.specs.Words.{IsWidth}

-- the first line of a text is that of this event, and this follows it
pub record IsLineOf {A : Type 0} (text : List ℕ) (event : Event A) (after : List ℕ) : Type 0 where
  pub fine : IsFine event
  pub is : text ≡ event_line event ++ 10 ∷ after

-- the first line of a text is that of an event
pub record BeginsWithEvent (A : Type 0) (text : List ℕ) : Type 0 where
  pub event : Event A
  pub after : List ℕ
  pub begins : IsLineOf text event after

-- that line was taken off, and says this
pub record TakesEvent {A : Type 0} (text : List ℕ) (parsed : ParsedEvent A) (after : List ℕ) : Type 0 where
  pub line : List ℕ
  pub ended : text ≡ line ++ 10 ∷ after
  pub lines : lines_of text ≡ line ∷ lines_of after
  pub fields : fields_of line ≡ parsed_fields parsed
  pub fine : IsFineParsed parsed

-- ---- what stands at the front of a line

-- a slot, and this behind its space
pub record HasSlot (text : List ℕ) (slot : ℕ) (after : List ℕ) : Type 0 where
  pub small : slot < 2 ^ 8
  pub is : text ≡ num slot ++ 32 ∷ after

pub record BeginsWithSlot (text : List ℕ) : Type 0 where
  pub slot : ℕ
  pub after : List ℕ
  pub has : HasSlot text slot after

-- a number, and this behind its space
pub record HasNumber (text : List ℕ) (n : ℕ) (after : List ℕ) : Type 0 where
  pub small : n < 2 ^ 64
  pub is : text ≡ num n ++ 32 ∷ after

pub record BeginsWithNumber (text : List ℕ) : Type 0 where
  pub n : ℕ
  pub after : List ℕ
  pub has : HasNumber text n after

-- a register, and this behind its width
pub record HasAccess (text : List ℕ) (kind : SlotWindow) (offset width : ℕ) (after : List ℕ) : Type 0 where
  pub three_digits : offset < 16 ^ 3
  pub wide : IsWidth width
  pub is : text ≡ window kind ++ 32 ∷ (fixed 3 offset ++ 32 ∷ (48 + width) ∷ after)

pub record BeginsWithAccess (text : List ℕ) : Type 0 where
  pub kind : SlotWindow
  pub offset : ℕ
  pub width : ℕ
  pub after : List ℕ
  pub has : HasAccess text kind offset width after

-- a value that is written by a width, and this behind its line feed
pub record HasValue (text : List ℕ) (width value : ℕ) (after : List ℕ) : Type 0 where
  pub wide : IsWidth width
  pub small : value < 16 ^ (2 * width)
  pub is : text ≡ fixed (2 * width) value ++ 10 ∷ after

pub record BeginsWithValue (text : List ℕ) (width : ℕ) : Type 0 where
  pub value : ℕ
  pub after : List ℕ
  pub has : HasValue text width value after

-- bytes, and this behind their line feed
pub record HasBytes (text field after : List ℕ) : Type 0 where
  pub bs : List ℕ
  pub says : IsBytesField field bs
  pub is : text ≡ field ++ 10 ∷ after

pub record BeginsWithBytes (text : List ℕ) : Type 0 where
  pub field : List ℕ
  pub after : List ℕ
  pub has : HasBytes text field after
