-- An event as its line says it: the fields of the line, whose bytes are still spelled.
use Rattle.std.specs.Prelude.{◌≡◌, ℕ, ◌^◌, ◌<◌, List, [], ◌∷◌, ◌++◌}
use Rattle.board.specs.declared.event.EventKind.{EventKind}
use Rattle.board.specs.declared.event.EventKind.TheVariants as what
use Rattle.board.specs.declared.event.DeviceEvent.{DeviceEvent}
use Rattle.board.specs.declared.event.DeviceEvent.TheVariants as device
use Rattle.trace.specs.declared.read.parsed_event.ParsedEvent.{ParsedEvent}
use Rattle.trace.specs.declared.word.Word.TheVariants.{MemWrite, Input, Restore, Supply, Receive}
use Rattle.trace.specs.Printable.{DeviceInRange, IsPrintableDone, IsPrintableKind, KindInRange}
use Rattle.hexadecimal.specs.Spelling.{num}
use Rattle.trace.specs.Text.{device_fields, device_word, line, what_fields, word_for}
use Rattle.trace.specs.Words.{Bytes, IsInEach, Says, spelled}

-- the fields of what is said to be done to a further device; where it has bytes, this field spells them
abbrev pub device_parsed : {A : Type 0} → ℕ → ℕ → DeviceEvent A → List ℕ → List (List ℕ)
device_parsed slot n (device.Supply bs) field = spelled Supply ∷ num slot ∷ num n ∷ field ∷ []
device_parsed slot n (device.Receive bs) field = spelled Receive ∷ num slot ∷ num n ∷ field ∷ []
device_parsed slot n done field = device_fields slot n done

-- the same of what a slot is said to do
abbrev pub what_parsed : {A : Type 0} → ℕ → EventKind A → List ℕ → List (List ℕ)
what_parsed slot (what.MemWrite addr bs) field = spelled MemWrite ∷ num slot ∷ num addr ∷ field ∷ []
what_parsed slot (what.Input bs) field = spelled Input ∷ num slot ∷ field ∷ []
what_parsed slot (what.Restore bs) field = spelled Restore ∷ num slot ∷ field ∷ []
what_parsed slot (what.Device n done) field = device_parsed slot n done field
what_parsed slot w field = what_fields slot w

abbrev pub parsed_fields : {A : Type 0} → ParsedEvent A → List (List ℕ)
parsed_fields s = what_parsed s.event.slot s.event.what s.bytes.now

unfoldable pub parsed_line : {A : Type 0} → ParsedEvent A → List ℕ
parsed_line s = line (parsed_fields s)

-- bytes that are still spelled, by this field
pub record AreSpelled (bs field : List ℕ) : Type 0 where
  pub none : bs ≡ []
  pub parsed : Says Bytes field

-- the same of bytes for an address
pub record AreSpelledAt (addr : ℕ) (bs field : List ℕ) : Type 0 where
  pub from : addr < 2 ^ 64
  pub bytes : AreSpelled bs field

-- what its integers admit and has a line, and is without bytes
pub record IsPlain {A : Type 0} (w : EventKind A) (field : List ℕ) : Type 0 where
  pub range : KindInRange w
  pub printable : IsPrintableKind w
  pub none : field ≡ []

-- and of bytes for a further device
pub record AreSpelledFor (n : ℕ) (bs field : List ℕ) : Type 0 where
  pub number : n < 2 ^ 8
  pub bytes : AreSpelled bs field

abbrev pub IsFineDone : {A : Type 0} → ℕ → DeviceEvent A → List ℕ → Type 0
IsFineDone n (device.Supply bs) field = AreSpelledFor n bs field
IsFineDone n (device.Receive bs) field = AreSpelledFor n bs field
IsFineDone n done field = IsPlain (what.Device n done) field

abbrev pub IsFineWhat : {A : Type 0} → EventKind A → List ℕ → Type 0
IsFineWhat (what.MemWrite addr bs) field = AreSpelledAt addr bs field
IsFineWhat (what.Input bs) field = AreSpelled bs field
IsFineWhat (what.Restore bs) field = AreSpelled bs field
IsFineWhat (what.Device n done) field = IsFineDone n done field
IsFineWhat w field = IsPlain w field

-- what is done to a further device is what was said, with the bytes that the field spells
pub record IsMeantBy {A : Type 0} (n : ℕ) (said : DeviceEvent A) (field : List ℕ) (done : DeviceEvent A)
    : Type 0 where
  pub fields : (slot : ℕ) → device_fields slot n done ≡ device_parsed slot n said field
  pub word : device_word done ≡ device_word said
  pub range : DeviceInRange n done
  pub printable : IsPrintableDone done

pub record IsFineParsed {A : Type 0} (s : ParsedEvent A) : Type 0 where
  pub slot : s.event.slot < 2 ^ 8
  pub what : IsFineWhat s.event.what s.bytes.now

-- the text's first line says this event, whose word every format has, and this follows it
pub record IsTaken {A : Type 0} (text : List ℕ) (s : ParsedEvent A) (after : List ℕ) : Type 0 where
  pub line : text ≡ parsed_line s ++ 10 ∷ after
  pub fine : IsFineParsed s
  pub each : IsInEach (word_for s.event.what)
