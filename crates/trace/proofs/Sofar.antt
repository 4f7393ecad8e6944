-- What has been read so far, and one line more.
use Rattle.std.proofs.Common.{◌≡◌, ◌≢◌, ℕ, suc, ◌+◌, ◌-◌, ◌<◌, ◌≤◌, Bool, true, false, List, [], ◌∷◌, ◌++◌, All, length, get_or, map, refl, sym, ap, subst, ◌∙◌, arith, inl, inr}
use Rattle.std.proofs.lemmas.Bool.{cases_Bool, cases_eq, cases_lt, lt-ltb}
use Rattle.std.proofs.lemmas.List.{append_assoc, append-nil, length-append, length-map, map_push, get_or_append_left, get_or-append_right, nil_from_length, length_push}
use Rattle.std.proofs.lemmas.List.Elements.{All-append, All-get_or, All-map, All-nil, All-push, recursion_from_All}
use Rattle.std.proofs.lemmas.List.Splits.{length-slice_split}
use Rattle.board.specs.declared.event.Event.{Event}
use Rattle.board.specs.declared.spec.SlotSpec.{SlotSpec}
use Rattle.trace.specs.declared.fault.FaultKind.{FaultKind}
use Rattle.trace.specs.declared.fault.FaultKind.TheVariants as kind
use Rattle.trace.specs.declared.read.parsed_event.ParsedEvent.{ParsedEvent}
use Rattle.trace.specs.declared.format.Format.{Format}
use Rattle.trace.specs.declared.word.Word.{Word}
use Rattle.trace.specs.declared.word.Word.TheVariants.{Cache, Slot}
use Rattle.trace.specs.Cuts.{fields_of, lines_of, is_line_feed}
use Rattle.trace.specs.Faults.{IsCleanBefore, IsEnded, IsFault, IsOfFormat, MayStand, Passes, first_field, line_at}
use Rattle.trace.specs.Printable.{InRange, IsPrintable, EventInRange, IsPrintableKind, IsPrintableSlot, SlotInRange}
use Rattle.trace.specs.ParsedEvent.{parsed_fields}
use Rattle.trace.specs.Words.{IsWordOf, spelled}
use Rattle.trace.specs.Refusals.{AddsLine, AddsParsed, IsFine, IsFineSlot, IsHead, RefusesLine, RefusesAfterWord, SaysEvent, has_begun, with_event, with_slot}
use Rattle.trace.specs.Text.{Content, ended, header, joined, text, line, cache_fields, cache_line, slot_fields, slot_line, event_fields, event_line, trace_lines, word_for}
use Rattle.trace.proofs.Clean.{Good, first_is, good_passes}
use Rattle.trace.proofs.Entries.{Entered, EnteredEvent, entered_cache, entered_event, entered_slot, same_word}
use Rattle.trace.proofs.Faulty.{cut_fault, fields_fault, order_fault, word_fault}
use Rattle.trace.proofs.Refused.{may_move}
use Rattle.trace.proofs.Signs.{Above, AllAbove, above_header, joined_push, line-fields_of, lines_of-joined, long_header}

abbrev IsSlotLine : Format → List ℕ → Type 0
IsSlotLine format l = Entered format l Slot

-- what has a text
pub record Fits {A : Type 0} (c : Content A) : Type 0 where
  pub range : InRange c
  pub printable : IsPrintable c

slot_lines : (format : Format) (slots : List SlotSpec) → All SlotInRange slots
    → All (IsPrintableSlot format) slots → All (IsSlotLine format) (map (slot_line format) slots)
slot_lines format slots h fine =
    All-map (IsSlotLine format) (slot_line format) slots
    (λ k d lt. entered_slot format (get_or slots k d) (record { fits = h k d lt; printable = fine k d lt }))

event_lines : {A : Type 0} (format : Format) (events : List (Event A)) → All EventInRange events
    → All (λ e. IsPrintableKind e.what) events → All (λ e. IsWordOf format (word_for e.what)) events
    → All (EnteredEvent format) (map event_line events)
event_lines format events range fine words =
    All-map (EnteredEvent format) event_line events
    (λ k d lt. entered_event format (get_or events k d)
    (record { fits = range k d lt; printable = fine k d lt }) (words k d lt))

-- no line of a trace has a line feed in it
pub unbroken : {A : Type 0} (c : Content A) → Fits c → AllAbove 10 (trace_lines c)
unfolding trace_lines
unbroken c h =
    let cache = entered_cache c.format c.cache h.range.cache in (
      above_header c.format,
      (
        cache.unbroken,
        recursion_from_All (Above 10) (map (slot_line c.format) c.slots ++ map event_line c.events)
            (All-append (Above 10) (map (slot_line c.format) c.slots) (map event_line c.events)
            (λ k d lt. (slot_lines c.format c.slots h.range.slots h.printable.slots k d lt).unbroken)
            (λ k d lt.
            (event_lines c.format c.events h.range.events h.printable.events h.printable.words k d
            lt).entry.unbroken)),
      ),
    )

pub some_lines : (text : List ℕ) → 0 < length (lines_of text)
unfolding lines_of
some_lines text = omega (arith, length-slice_split is_line_feed text)

-- the text is that of what was read and a rest, and line k comes next
pub record Sofar {A : Type 0} (text : List ℕ) (c : Content A) (k : ℕ) (rest : List ℕ) : Type 0 where
  pub spelled : text ≡ joined (trace_lines c) ++ rest
  pub fits : Fits c
  pub count : k ≡ 3 + (length c.slots + length c.events)

module _ {A : Type 0} {text : List ℕ} {c : Content A} {k : ℕ} {rest : List ℕ} (s : Sofar text c k rest) where
  -- the lines of its slots, and those of its events
  abbrev S : List (List ℕ)
  S = map (slot_line c.format) c.slots

  abbrev E : List (List ℕ)
  E = map event_line c.events

  abbrev front : List (List ℕ)
  front = header c.format ∷ cache_line c.cache ∷ (S ++ E)

  parts : lines_of text ≡ front ++ lines_of rest
  unfolding trace_lines
  parts = ap lines_of s.spelled ∙ lines_of-joined (trace_lines c) rest (unbroken c s.fits)

  bound : k ≡ 3 + (length S + length E)
  bound = let count = s.count in
      omega (arith, length-map c.slots (slot_line c.format), length-map c.events event_line)

  pub lines_left : length (lines_of text) + 1 ≡ k + length (lines_of rest)
  lines_left = omega (arith, ap length parts, bound, length-append S E, length-append front (lines_of rest))

  names_it : IsOfFormat text c.format
  names_it = ap (λ (ls : List (List ℕ)). get_or ls 0 []) parts

  -- ---- the lines before the next one

  at_later : (j : ℕ) → 3 ≤ j → j < k → line_at text j ≡ get_or (S ++ E) (j - 3) []
  at_later j le lt =
      let e : j - 1 ≡ suc (suc (j - 3)) = omega arith in
      ap (λ (ls : List (List ℕ)). get_or ls (j - 1) []) parts
      ∙ ap (λ (n : ℕ). get_or (front ++ lines_of rest) n []) e
      ∙ get_or_append_left (S ++ E) (lines_of rest) [] (j - 3) (omega (arith, bound, length-append S E))

  slot_there : (j : ℕ) → 3 ≤ j → j < 3 + length S → Entered c.format (line_at text j) Slot
  slot_there j le lt = subst (IsSlotLine c.format)
      (sym (at_later j le (omega (arith, bound)) ∙ get_or_append_left S E [] (j - 3) (omega arith)))
      (All-get_or (IsSlotLine c.format) S (j - 3) [] (omega arith)
      (slot_lines c.format c.slots s.fits.range.slots s.fits.printable.slots))

  event_there : (j : ℕ) → 3 + length S ≤ j → j < k → EnteredEvent c.format (line_at text j)
  event_there j le lt = subst (EnteredEvent c.format) (sym (at_later j (omega arith) lt
      ∙ get_or-append_right S E (length S) (j - 3) [] refl (omega arith)))
      (All-get_or (EnteredEvent c.format) E (j - 3 - length S) [] (omega (arith, bound))
      (event_lines c.format c.events s.fits.range.events s.fits.printable.events s.fits.printable.words))

  -- a line after the first
  good_entry : (j : ℕ) → 2 ≤ j → IsEnded text j → (word : Word) → MayStand j word → IsWordOf c.format word
      → Entered c.format (line_at text j) word
      → (first_field (line_at text j) ≡ spelled Slot → (i : ℕ) → 3 ≤ i → i < j
      → first_field (line_at text i) ≡ spelled Slot)
      → Good c.format text j
  good_entry j late end word may of entry ordered = record {
    ended = end;
    names = names_it;
    first = λ one. absurd (omega arith);
    word = λ _. record {
      word = word;
      may = may;
      of_format = of;
      first = first_is c.format (line_at text j) word entry;
    };
    order = ordered;
    entry = λ _. (word, entry);
  }

  good : (j : ℕ) → 1 ≤ j → j < k → Good c.format text j
  good j le lt =
      let end : IsEnded text j = omega (arith, lines_left, some_lines rest) in
      elim (cases_lt j 3) [
        | inl early ↦
            elim (cases_eq j 1) [
              | inl one ↦
                  record {
                    ended = end;
                    names = names_it;
                    first = λ _. (c.format, ap (line_at text) one ∙ names_it);
                    word = λ two. absurd (omega arith);
                    order = λ _ i low high. absurd (omega arith);
                    entry = λ two. absurd (omega arith);
                  }
              | inr ne ↦
                  let two : j ≡ 2 = omega arith in
                  good_entry j (omega arith) end Cache two tt
                  (subst (λ (l : List ℕ). Entered c.format l Cache)
                  (sym (ap (line_at text) two ∙ ap (λ (ls : List (List ℕ)). get_or ls 1 []) parts))
                  (entered_cache c.format c.cache s.fits.range.cache))
                  (λ _ i low high. absurd (omega arith))
            ]
        | inr late ↦
            elim (cases_lt j (3 + length S)) [
              | inl slot ↦
                  good_entry j (omega arith) end Slot late tt (slot_there j late slot)
                  (λ _ i low high. first_is c.format (line_at text i) Slot (slot_there i low (omega arith)))
              | inr event ↦
                  let e = event_there j event lt in
                  good_entry j (omega arith) end e.word (may_move e.word 3 j (omega arith) late e.may)
                  e.of_format e.entry
                  (λ is i low high. absurd (e.other (same_word e.word Slot
                  (sym (first_is c.format (line_at text j) e.word e.entry) ∙ is))))
            ]
      ]

  pub clean : IsCleanBefore text k
  clean j le lt fault = good_passes c.format text j (good j le lt) fault

  -- ---- the line that comes next, and whether it is ended

  pub next_is : line_at text k ≡ get_or (lines_of rest) 0 []
  next_is =
      let long : length front ≡ k - 1 = omega (arith, bound, length-append S E) in
      let none : k - 1 - (k - 1) ≡ 0 = omega arith in
      ap (λ (ls : List (List ℕ)). get_or ls (k - 1) []) parts
      ∙ get_or-append_right front (lines_of rest) (k - 1) (k - 1) [] long (omega arith)
      ∙ ap (λ (n : ℕ). get_or (lines_of rest) n []) none

  -- the rest is a line that isn't ended
  pub is_cut : lines_of rest ≡ rest ∷ [] → rest ≢ [] → IsFault text k kind.Cut
  is_cut last some =
      let count = s.count in
      cut_fault text k (omega arith) clean
      (inr (λ none. some (sym (ap (λ (ls : List (List ℕ)). get_or ls 0 []) last) ∙ sym next_is ∙ none)))
      (λ end. omega (arith, lines_left, ap length last))

  -- an ended line that has this word and fields
  ordered : (begun : Bool) (fault : FaultKind) → IsEnded text k → (begun ≡ false → length c.events ≡ 0)
      → RefusesAfterWord c.format begun (line_at text k) fault → Passes text k kind.Order
  ordered begun fault end none r = λ _ slot j low high.
      let count = s.count in
      elim (cases_Bool begun) [
        | inl so ↦ absurd (r.ordered so (same_word r.word Slot (sym r.first ∙ slot)))
        | inr not_yet ↦
            let none_yet = none not_yet in
            first_is c.format (line_at text j) Slot
            (slot_there j low (omega (arith, bound, length-map c.events event_line)))
      ]

  fault_after : (begun : Bool) (fault : FaultKind) → IsEnded text k → 2 ≤ k
      → (begun ≡ false → length c.events ≡ 0) → RefusesAfterWord c.format begun (line_at text k) fault
      → fault ≢ kind.NoMemory → IsFault text k fault
  fault_after begun fault end late none r known =
      let count = s.count in
      fields_fault text k late clean end c.format names_it r.word
      (may_move r.word 3 k (omega arith) (omega arith) r.may) r.of_format r.first
      (ordered begun fault end none r) fault r.refused known

  refused : (begun : Bool) (fault : FaultKind) → IsEnded text k → 2 ≤ k → (begun ≡ true → 0 < length c.events)
      → (begun ≡ false → length c.events ≡ 0) → RefusesLine c.format begun (line_at text k) fault
      → fault ≢ kind.NoMemory → IsFault text k fault
  refused begun kind.Word end late some none h known =
      let count = s.count in
      word_fault text k late clean end c.format names_it
      (λ w may of is. h w (may_move w k 3 (omega arith) (omega arith) may) of is)
  refused begun kind.Order end late some none h known =
      let count = s.count in
      let begins = some h.0 in
      let more = length-map c.events event_line in
      let e = event_there (3 + length S) (omega arith) (omega (arith, bound)) in
      order_fault text k late clean end (omega arith) h.1 (3 + length S) (omega arith) (omega (arith, bound))
      (λ is. e.other (same_word e.word Slot
      (sym (first_is c.format (line_at text (3 + length S)) e.word e.entry) ∙ is)))
  refused begun fault end late some none h known = fault_after begun fault end late none h known

  -- the next line is refused
  pub is_refused : (begun : Bool) (l after : List ℕ) (fault : FaultKind) → lines_of rest ≡ l ∷ lines_of after
      → (begun ≡ true → 0 < length c.events) → (begun ≡ false → length c.events ≡ 0)
      → RefusesLine c.format begun l fault → fault ≢ kind.NoMemory → IsFault text k fault
  is_refused begun l after fault is some none h known =
      let count = s.count in
      let here : line_at text k ≡ l = next_is ∙ ap (λ (ls : List (List ℕ)). get_or ls 0 []) is in
      let end : IsEnded text k = omega (arith, lines_left, ap length is, some_lines after) in
      refused begun fault end (omega arith) some none
      (subst (λ (x : List ℕ). RefusesLine c.format begun x fault) (sym here) h) known

-- where nothing is left, the whole text was read
pub all_read : {A : Type 0} {whole : List ℕ} {c : Content A} {k : ℕ} {rest : List ℕ} → Sofar whole c k rest
    → length rest ≡ 0 → whole ≡ text c
all_read {c = c} {rest = rest} so none = so.spelled ∙ ap (λ (xs : List ℕ). text c ++ xs) (nil_from_length rest none)
    ∙ append-nil (text c)

-- ---- one line more

pub push_slot : {A : Type 0} (c : Content A) (s : SlotSpec) → length c.events ≡ 0
    → trace_lines (record c { slots = c.slots ++ s ∷ [] }) ≡ trace_lines c ++ slot_line c.format s ∷ []
unfolding trace_lines
push_slot c s none =
    let e : map event_line c.events ≡ [] = ap (map event_line) (nil_from_length c.events none) in
    rw (
      e,
      append-nil (map (slot_line c.format) (c.slots ++ s ∷ [])),
      append-nil (map (slot_line c.format) c.slots),
      map_push (slot_line c.format) c.slots s,
    ) refl

pub push_event : {A : Type 0} (c : Content A) (e : Event A)
    → trace_lines (record c { events = c.events ++ e ∷ [] }) ≡ trace_lines c ++ event_line e ∷ []
unfolding trace_lines
push_event c e =
    ap (λ (ls : List (List ℕ)). (header c.format ∷ cache_line c.cache ∷ map (slot_line c.format) c.slots)
    ++ ls) (map_push event_line c.events e)
    ∙ sym (append_assoc (header c.format ∷ cache_line c.cache ∷ map (slot_line c.format) c.slots)
    (map event_line c.events) (event_line e ∷ []))

-- a line taken off the rest goes to the end of what was read
pub taken : (text : List ℕ) (front more : List (List ℕ)) (rest l after : List ℕ) → text ≡ joined front ++ rest
    → rest ≡ l ++ 10 ∷ after → more ≡ front ++ l ∷ [] → text ≡ joined more ++ after
taken text front more rest l after whole cut is =
    whole ∙ ap (λ (xs : List ℕ). joined front ++ xs) (cut ∙ sym (append_assoc l (10 ∷ []) after))
    ∙ sym (append_assoc (joined front) (ended l) after)
    ∙ ap (λ (xs : List ℕ). xs ++ after) (sym (ap joined is ∙ joined_push front l))

-- one line more, which has these fields
line_read : {A : Type 0} {text : List ℕ} {c : Content A} {k : ℕ} {rest : List ℕ} (d : Content A) (l after : List ℕ)
    (fields : List (List ℕ)) → Sofar text c k rest → rest ≡ l ++ 10 ∷ after → fields_of l ≡ fields
    → trace_lines d ≡ trace_lines c ++ line fields ∷ [] → Fits d
    → length d.slots + length d.events ≡ length c.slots + length c.events + 1 → Sofar text d (k + 1) after
line_read {text = text} {c = c} {rest = rest} d l after fields so cut is lines fits more =
    let count = so.count in
    record {
      spelled = taken text (trace_lines c) (trace_lines d) rest l after so.spelled cut
          (lines ∙ ap (λ (x : List ℕ). trace_lines c ++ x ∷ []) (sym (line-fields_of l fields is)));
      fits = fits;
      count = omega arith;
    }

fits_slot : {A : Type 0} (c : Content A) (s : SlotSpec) → Fits c → IsFineSlot c.format s
    → Fits (with_slot c s)
fits_slot c s h fine =
    let range = h.range in
    let printable = h.printable in
    record {
      range = record {
        cache = range.cache;
        slots = All-push SlotInRange c.slots s range.slots fine.fits;
        events = range.events;
      };
      printable = record {
        slots = All-push (IsPrintableSlot c.format) c.slots s printable.slots fine.printable;
        events = printable.events;
        words = printable.words;
      };
    }

pub slot_read : {A : Type 0} {text : List ℕ} {c : Content A} {k : ℕ} {rest : List ℕ} (l after : List ℕ) (s : SlotSpec)
    → Sofar text c k rest → rest ≡ l ++ 10 ∷ after → fields_of l ≡ slot_fields c.format s
    → IsFineSlot c.format s → length c.events ≡ 0 → Sofar text (with_slot c s) (k + 1) after
unfolding slot_line
slot_read {c = c} l after s so cut is fine none =
    line_read (with_slot c s) l after (slot_fields c.format s) so cut is (push_slot c s none)
    (fits_slot c s so.fits fine) (omega (arith, length_push c.slots s))

fits_event : {A : Type 0} (c : Content A) (e : Event A) → Fits c → IsFine e
    → IsWordOf c.format (word_for e.what) → Fits (with_event c e)
fits_event c e h fine of =
    let range = h.range in
    let printable = h.printable in
    record {
      range = record {
        cache = range.cache;
        slots = range.slots;
        events = All-push EventInRange c.events e range.events fine.fits;
      };
      printable = record {
        slots = printable.slots;
        events = All-push (λ x. IsPrintableKind x.what) c.events e printable.events fine.printable;
        words = All-push (λ x. IsWordOf c.format (word_for x.what)) c.events e printable.words of;
      };
    }

pub event_read : {A : Type 0} {text : List ℕ} {c : Content A} {k : ℕ} {rest : List ℕ} (l after : List ℕ) (e : Event A)
    → Sofar text c k rest → rest ≡ l ++ 10 ∷ after → fields_of l ≡ event_fields e → IsFine e
    → IsWordOf c.format (word_for e.what) → Sofar text (with_event c e) (k + 1) after
unfolding event_line
event_read {c = c} l after e so cut is fine of =
    line_read (with_event c e) l after (event_fields e) so cut is (push_event c e)
    (fits_event c e so.fits fine of) (omega (arith, length_push c.events e))

two_lines : (a b rest : List ℕ) → ((a ++ 10 ∷ []) ++ ((b ++ 10 ∷ []) ++ [])) ++ rest ≡ a
    ++ 10 ∷ (b ++ 10 ∷ rest)
two_lines a b rest = simp (append_assoc, append-nil)

-- the first two lines
pub begun_so : {A : Type 0} (text : List ℕ) (format : Format) (cache : ℕ) (rest : List ℕ)
    → IsHead text format cache rest
    → Sofar {A = A} text (record { format = format; cache = cache; slots = []; events = [] }) 3 rest
unfolding trace_lines joined cache_line
begun_so text format cache rest h =
    let first = h.format_is in
    let second = h.cache_is in
    let e = line-fields_of second.line (cache_fields cache) second.fields in
    record {
      spelled = first.ended ∙ ap (λ (m : List ℕ). header format ++ 10 ∷ m) (second.ended
          ∙ ap (λ (x : List ℕ). x ++ 10 ∷ rest) e)
          ∙ sym (two_lines (header format) (line (cache_fields cache)) rest);
      fits = record {
        range = record {
          cache = second.fits;
          slots = All-nil SlotInRange;
          events = λ k d lt. absurd (omega arith);
        };
        printable = record {
          slots = All-nil (IsPrintableSlot format);
          events = λ k d lt. absurd (omega arith);
          words = λ k d lt. absurd (omega arith);
        };
      };
      count = refl;
    }

pub none_begun : {A : Type 0} (c : Content A) → (has_begun c ≡ true → ⊥) → length c.events ≡ 0
none_begun c h = elim (cases_lt 0 (length c.events))
    [ inl lt ↦ absurd (h (lt-ltb 0 (length c.events) lt)) | inr le ↦ omega arith ]

pub entry_read : {A : Type 0} {text : List ℕ} {c : Content A} {k : ℕ} {rest : List ℕ} (d : Content A) (l after : List ℕ)
    → Sofar text c k rest → rest ≡ l ++ 10 ∷ after → AddsLine c l d → Sofar text d (k + 1) after
entry_read {text = text} {c = c} {k = k} d l after so cut (inl adds) =
    subst (λ x. Sofar text x (k + 1) after) (sym adds.added)
    (slot_read l after adds.slot so cut adds.parsed.fields adds.parsed.fine (none_begun c adds.parsed.early))
entry_read {text = text} {k = k} d l after so cut (inr adds) =
    subst (λ x. Sofar text x (k + 1) after) (sym adds.added)
    (event_read l after adds.event so cut adds.parsed.fields adds.parsed.fine adds.parsed.of_format)

-- the line of an event that was said is that of the event
pub says_event : {A : Type 0} (format : Format) (l : List ℕ) (parsed : ParsedEvent A) (e : Event A)
    → fields_of l ≡ parsed_fields parsed → IsWordOf format (word_for parsed.event.what)
    → event_fields e ≡ parsed_fields parsed → word_for e.what ≡ word_for parsed.event.what → IsFine e
    → SaysEvent format l e
says_event format l parsed e is of same word fine = record {
  fields = is ∙ sym same;
  fine = fine;
  of_format = subst (λ (w : Word). IsWordOf format w) (sym word) of;
}

-- what a line says was added
pub parsed_added : {A : Type 0} (old : Content A) (l : List ℕ) (parsed : ParsedEvent A)
    (events : List (Event A)) → fields_of l ≡ parsed_fields parsed
    → IsWordOf old.format (word_for parsed.event.what) → AddsParsed parsed old.events events
    → AddsLine old l (record old { events = events })
parsed_added old l parsed events is of adds =
    inr (record {
      event = adds.event;
      parsed = says_event old.format l parsed adds.event is of adds.fields adds.word adds.fine;
      added = ap (λ es. record old { events = es }) adds.added;
    })

-- the next line's number stays below the text's length
pub length_joined : (ls : List (List ℕ)) → length ls ≤ length (joined ls)
unfolding joined
length_joined [] = omega arith
length_joined (l ∷ ls) = omega (
  arith,
  length_joined ls,
  length-append (ended l) (joined ls),
  length-append l (10 ∷ []),
)

pub numbered : {A : Type 0} {text : List ℕ} {c : Content A} {k : ℕ} {rest : List ℕ} → Sofar text c k rest
    → k + 8 ≤ length text
unfolding trace_lines joined
numbered {c = c} {rest = rest} so =
    let others : List (List ℕ) =
    cache_line c.cache ∷ (map (slot_line c.format) c.slots ++ map event_line c.events) in
    omega (
      arith,
      ap length so.spelled,
      length-append (joined (trace_lines c)) rest,
      length-append (ended (header c.format)) (joined others),
      length-append (header c.format) (10 ∷ []),
      long_header c.format,
      length_joined others,
      bound so,
      length-append (map (slot_line c.format) c.slots) (map event_line c.events),
    )
