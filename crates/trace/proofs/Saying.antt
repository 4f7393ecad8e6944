-- The event that a line says, and its fields.
use Rattle.std.proofs.Common.{◌≡◌, ℕ, ◌/◌, List, ◌∷◌, ◌++◌, length, refl, sym, ap, subst, ◌∙◌}
use Rattle.board.specs.declared.event.Event.{Event}
use Rattle.board.specs.declared.event.EventKind.{EventKind}
use Rattle.board.specs.declared.event.EventKind.TheVariants as event
use Rattle.board.specs.declared.event.DeviceEvent.TheVariants as device
use Rattle.trace.specs.declared.format.Format.TheVariants.{Extended}
use Rattle.trace.specs.declared.read.parsed_event.ParsedEvent.{ParsedEvent}
use Rattle.trace.specs.Cuts.{fields_of, lines_of}
use Rattle.trace.specs.Events.{TakesEvent}
use Rattle.trace.specs.Validating.{bytes_len, parsed_len}
use Rattle.trace.specs.Printable.{IsPrintableKind, KindInRange}
use Rattle.trace.specs.Refusals.{IsFine}
use Rattle.trace.specs.ParsedEvent.{IsFineParsed, IsFineWhat, IsPlain, parsed_fields, parsed_line, what_parsed}
use Rattle.trace.specs.Text.{event_fields, event_line, line, what_fields, word_for}
use Rattle.hexadecimal.specs.Fields.{SpellsBytes}
use Rattle.hexadecimal.specs.Spelling.{bytes}
use Rattle.hexadecimal.proofs.ByteFields.{spelled_len}
use Rattle.trace.specs.Words.{IsInEach, IsWordOf}
use Rattle.trace.specs.declared.word.Word.{Word}
use Rattle.trace.proofs.Entries.{cut_event, entered_event}
use Rattle.trace.proofs.Signs.{Above, lines_of-line}

-- an event with these fields, and as many bytes as are still spelled
pub record Meant {A : Type 0} (fields : List (List ℕ)) (s : ParsedEvent A) : Type 0 where
  pub event : Event A
  pub fields_are : event_fields event ≡ fields
  pub word : word_for event.what ≡ word_for s.event.what
  pub fine : IsFine event
  pub len : bytes_len event.what ≡ parsed_len s

record MeantWhat {A : Type 0} (slot : ℕ) (w : EventKind A) (field : List ℕ) : Type 0 where
  kind : EventKind A
  len : bytes_len kind ≡ length field / 2
  fields_are : what_fields slot kind ≡ what_parsed slot w field
  word : word_for kind ≡ word_for w
  range : KindInRange kind
  printable : IsPrintableKind kind

plain : {A : Type 0} (slot : ℕ) (w : EventKind A) (field : List ℕ) → IsPlain w field → bytes_len w ≡ 0
    → what_fields slot w ≡ what_parsed slot w field → MeantWhat slot w field
plain slot w field h none same =
    record {
      kind = w;
      len = rw h.none none;
      fields_are = same;
      word = refl;
      range = h.range;
      printable = h.printable;
    }

-- bytes that its field spells
with_bytes : {A : Type 0} (slot : ℕ) (w : EventKind A) (field : List ℕ) (kind : List ℕ → EventKind A)
    (h : SpellsBytes field) → bytes_len (kind h.0) ≡ length h.0
    → what_fields slot (kind h.0) ≡ what_parsed slot w (bytes h.0) → word_for (kind h.0) ≡ word_for w
    → KindInRange (kind h.0) → IsPrintableKind (kind h.0) → MeantWhat slot w field
with_bytes slot w field kind h len same word range printable =
    record {
      kind = kind h.0;
      len = len ∙ spelled_len field h.0 h.1;
      fields_are = same ∙ ap (what_parsed slot w) (sym h.1.spelled);
      word = word;
      range = range;
      printable = printable;
    }

by_what : {A : Type 0} (slot : ℕ) (w : EventKind A) (field : List ℕ) → IsFineWhat w field
    → MeantWhat slot w field
by_what slot (event.MemWrite addr bs) field h =
    with_bytes slot (event.MemWrite addr bs) field (event.MemWrite addr) h.bytes.parsed refl refl refl
    (record { from = h.from; each = h.bytes.parsed.1.fits }) tt
by_what slot (event.Input bs) field h =
    with_bytes slot (event.Input bs) field event.Input h.parsed refl refl refl
    (record { each = h.parsed.1.fits }) tt
by_what slot (event.Restore bs) field h =
    with_bytes slot (event.Restore bs) field event.Restore h.parsed refl refl refl
    (record { each = h.parsed.1.fits }) tt
by_what slot (event.Device n (device.Supply bs)) field h =
    with_bytes slot (event.Device n (device.Supply bs)) field (λ xs. event.Device n (device.Supply xs))
    h.bytes.parsed refl refl refl
    (record { number = h.number; range = record { each = h.bytes.parsed.1.fits } }) tt
by_what slot (event.Device n (device.Receive bs)) field h =
    with_bytes slot (event.Device n (device.Receive bs)) field (λ xs. event.Device n (device.Receive xs))
    h.bytes.parsed refl refl refl
    (record { number = h.number; range = record { each = h.bytes.parsed.1.fits } }) tt
by_what slot w field h = plain slot w field h refl refl

-- what is said is an event's
pub meant : {A : Type 0} (s : ParsedEvent A) → IsFineParsed s → Meant (parsed_fields s) s
meant s h =
    let it = by_what s.event.slot s.event.what s.bytes.now h.what in
    record {
      event = record { slot = s.event.slot; what = it.kind };
      fields_are = it.fields_are;
      word = it.word;
      fine = record { fits = record { slot = h.slot; what = it.range }; printable = it.printable };
      len = it.len;
    }

-- the fields of a line that was made of them
pub cut_parsed : {A : Type 0} (s : ParsedEvent A) → IsFineParsed s
    → fields_of (parsed_line s) ≡ parsed_fields s
unfolding parsed_line event_line
cut_parsed s h =
    let it = meant s h in
    ap (λ (fs : List (List ℕ)). fields_of (line fs)) (sym it.fields_are)
    ∙ cut_event it.event it.fine ∙ it.fields_are

-- no line feed stands in it
unbroken_parsed : {A : Type 0} (s : ParsedEvent A) → IsFineParsed s → IsInEach (word_for s.event.what)
    → Above 10 (parsed_line s)
unfolding parsed_line event_line
unbroken_parsed s h each =
    let it = meant s h in
    let of : IsWordOf Extended (word_for it.event.what) =
    subst (λ (w : Word). IsWordOf Extended w) (sym it.word) (each Extended) in
    subst (λ (fs : List (List ℕ)). Above 10 (line fs)) it.fields_are
    (entered_event Extended it.event it.fine of).entry.unbroken

-- the line was taken off a text
pub taken_parsed : {A : Type 0} (s : ParsedEvent A) (text after : List ℕ) → IsFineParsed s
    → IsInEach (word_for s.event.what)
    → text ≡ parsed_line s ++ 10 ∷ after → TakesEvent text s after
taken_parsed s text after fine each is = record {
  line = parsed_line s;
  ended = is;
  lines = ap lines_of is ∙ lines_of-line (parsed_line s) after (unbroken_parsed s fine each);
  fields = cut_parsed s fine;
  fine = fine;
}
