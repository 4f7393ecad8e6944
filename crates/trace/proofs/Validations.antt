-- What was validated of a text so far, and one line more.
use Rattle.std.proofs.Common.{◌≡◌, ◌≢◌, ℕ, ◌+◌, ◌<◌, ◌≤◌, ◌==◌, Bool, true, not, nat_lt, if◌then◌else◌, List, [], ◌∷◌, ◌++◌, length, map, refl, sym, ap, subst, ◌∙◌, arith, inl, inr}
use Rattle.std.proofs.lemmas.Bool.{cases_Bool, cases_lt, eq-eqb, eqb-true, ltb-false, ltb-true, not-false, true≢false}
use Rattle.std.proofs.lemmas.List.{append-nil, length-append, length-map, map_push, nil_from_length}
use Rattle.std.proofs.lemmas.List.Elements.{All-nil, All-push, All-weaker}
use Rattle.board.specs.declared.event.Event.{Event}
use Rattle.board.specs.declared.spec.SlotSpec.{SlotSpec}
use Rattle.trace.specs.declared.format.Format.{Format}
use Rattle.trace.specs.declared.fault.FaultKind.{FaultKind}
use Rattle.trace.specs.declared.fault.FaultKind.TheVariants as kind
use Rattle.trace.specs.declared.fault.TraceFault.{TraceFault}
use Rattle.trace.specs.declared.read.parsed_event.ParsedEvent.{ParsedEvent}
use Rattle.trace.specs.Cuts.{fields_of, lines_of}
use Rattle.trace.specs.Faults.{IsFault, IsCleanBefore}
use Rattle.trace.specs.Validating.{HaveRoom, IsValidated, ValidatesFirst, ValidatesLine, Validation, RefusesFirst, begun_before, bytes_len, parsed_len}
use Rattle.trace.specs.Refusals.{IsFineSlot, RefusesLine, SaysEvent, SaysSlot, with_event, with_slot}
use Rattle.trace.specs.Reading.{IsTraceFault}
use Rattle.trace.specs.ParsedEvent.{IsFineParsed, parsed_fields, parsed_line}
use Rattle.trace.specs.Text.{Content, event_fields, event_line, joined, slot_fields, word_for}
use Rattle.trace.specs.Words.{IsInEach, IsWordOf}
use Rattle.trace.proofs.Saying.{cut_parsed, meant}
use Rattle.trace.proofs.Signs.{line-fields_of}
use Rattle.trace.proofs.Sofar.{Sofar, all_read, clean, event_read, is_cut, is_refused, length_joined, says_event, slot_read, taken}
use Rattle.trace.proofs.Unique.{no_fault, one_trace, text_clean}

-- a line that says an event was validated, and this is kept of how many bytes it spells
counted_as : (A : Type 0) (begun : Bool) (line after : List ℕ) (longest longest_line : ℕ) (s : ParsedEvent A)
    (old new : Validation) → fields_of line ≡ parsed_fields s → IsFineParsed s
    → IsWordOf old.format (word_for s.event.what)
    → parsed_len s ≤ longest → old.longest ≤ longest → (1 ≤ old.longest_line → 1 ≤ longest_line)
    → new ≡ record old { longest = longest; longest_line = longest_line }
    → ValidatesLine A begun line after old new
counted_as A begun line after longest longest_line s old new is fine of fits longer numbered e =
    let it = meant s fine in
    let len = it.len in
    inr (record {
      event = it.event;
      parsed = says_event old.format line s it.event is of it.fields_are it.word it.fine;
      fits = rw e (omega arith);
      longer = rw e longer;
      numbered = rw e numbered;
      is = rw e refl;
    })

-- the same, by whether it spells the most so far
pub event_validated : (A : Type 0) (begun : Bool) (line after : List ℕ) (n : ℕ) (s : ParsedEvent A)
    (old new : Validation) → fields_of line ≡ parsed_fields s → IsFineParsed s
    → IsWordOf old.format (word_for s.event.what) → 1 ≤ n
    → new ≡ (if nat_lt old.longest (parsed_len s) then record old {
      longest = parsed_len s;
      longest_line = n;
    } else old) → ValidatesLine A begun line after old new
event_validated A begun line after n s old new is fine of numbered counted =
    elim (cases_Bool (nat_lt old.longest (parsed_len s))) [
      | inl more ↦
          let lt = ltb-true old.longest (parsed_len s) more in
          counted_as A begun line after (parsed_len s) n s old new is fine of (omega arith) (omega arith)
          (λ _. numbered) (rw more at counted)
      | inr same ↦
          let le = ltb-false old.longest (parsed_len s) same in
          counted_as A begun line after old.longest old.longest_line s old new is fine of le (omega arith)
          (λ h. h) (rw same at counted)
    ]

-- the same of the first line of what is left, which says an event in each format
pub first_event_validated : {A : Type 0} (rest after : List ℕ) (n : ℕ) (s : ParsedEvent A)
    (old new : Validation) → rest ≡ parsed_line s ++ 10 ∷ after → IsFineParsed s
    → IsInEach (word_for s.event.what) → 1 ≤ n
    → new ≡ (if nat_lt old.longest (parsed_len s) then record old {
      longest = parsed_len s;
      longest_line = n;
    } else old)
    → ValidatesFirst A rest after old new
first_event_validated {A = A} rest after n s old new ended fine each numbered counted = record {
  line = parsed_line s;
  ended = ended;
  validated = event_validated A (begun_before old rest) (parsed_line s) after n s old new (cut_parsed s fine)
      fine (each old.format) numbered counted;
}

-- the lines so far are those of a trace, of which this is kept
pub record ValidatedSofar (A : Type 0) (whole : List ℕ) (j : Validation) (k : ℕ)
    (rest : List ℕ) : Type 0 where
  pub trace : Content A
  pub so : Sofar whole trace k rest
  pub format : trace.format ≡ j.format
  pub cache : trace.cache ≡ j.cache
  pub slots : trace.slots ≡ j.slots
  pub lines : j.events ≡ joined (map event_line trace.events) ++ rest
  pub fit : HaveRoom j.longest trace.events
  pub numbered : 1 ≤ j.longest_line

-- the first two lines
pub validated_first : (A : Type 0) (whole : List ℕ) (format : Format) (cache : ℕ) (slots : List SlotSpec) (rest : List ℕ)
    → slots ≡ [] → Sofar {A = A} whole (record { format = format; cache = cache; slots = []; events = [] }) 3 rest
    → ValidatedSofar A whole (record {
      format = format;
      cache = cache;
      slots = slots;
      events = rest;
      longest = 0;
      longest_line = 1;
    }) 3 rest
unfolding joined
validated_first A whole format cache slots rest none so = record {
  trace = record { format = format; cache = cache; slots = []; events = [] };
  so = so;
  format = refl;
  cache = refl;
  slots = sym none;
  lines = refl;
  fit = All-nil (λ (e : Event A). bytes_len e.what ≤ 0);
  numbered = omega arith;
}

-- no events, no lines of them
no_lines : {A : Type 0} (es : List (Event A)) (rest : List ℕ) → length es ≡ 0
    → rest ≡ joined (map event_line es) ++ rest
unfolding joined
no_lines [] rest none = refl
no_lines (e ∷ es) rest none = absurd (omega arith)

-- a fault of the text, which is then no trace's
pub is_fault : (A : Type 0) (whole : List ℕ) (fault : TraceFault)
    → (fault.kind ≢ kind.NoMemory → IsFault whole fault.line fault.kind) → 1 ≤ fault.line
    → IsCleanBefore whole fault.line → IsTraceFault A whole fault
is_fault A whole fault named numbered clean' = record {
  named = named;
  none = λ known other range printable is. no_fault whole other fault.line fault.kind
      (record { range = range; printable = printable }) is (named known);
  numbered = numbered;
  clean = clean';
}

module _ {A : Type 0} {whole : List ℕ} {j : Validation} {k : ℕ} {rest : List ℕ}
    (s : ValidatedSofar A whole j k rest) where
  -- events have begun where their lines begin before the rest
  some_events : length j.events ≢ length rest → 0 < length s.trace.events
  some_events other =
      elim (cases_lt 0 (length s.trace.events)) [
        | inl some ↦ some
        | inr none ↦ absurd (other (ap length (s.lines ∙ sym (no_lines s.trace.events rest (omega arith)))))
      ]

  no_events : length j.events ≡ length rest → length s.trace.events ≡ 0
  no_events same =
      omega (
        arith,
        ap length s.lines,
        length-append (joined (map event_line s.trace.events)) rest,
        length_joined (map event_line s.trace.events),
        length-map s.trace.events event_line,
      )

  -- one line more
  slot_more : (l after : List ℕ) (slot : SlotSpec) → rest ≡ l ++ 10 ∷ after
      → SaysSlot j.format (begun_before j rest) l slot
      → ValidatedSofar A whole (record j { slots = j.slots ++ slot ∷ []; events = after }) (k + 1) after
  slot_more l after slot cut parsed =
      let same : (length j.events == length rest) ≡ true =
      elim (cases_Bool (length j.events == length rest))
      [ inl same ↦ same | inr other ↦ absurd (parsed.early (ap not other)) ] in
      let none = no_events (eqb-true (length j.events) (length rest) same) in
      let is = subst (λ (v : Format). fields_of l ≡ slot_fields v slot) (sym s.format) parsed.fields in
      let fine = subst (λ (v : Format). IsFineSlot v slot) (sym s.format) parsed.fine in
      record {
        trace = with_slot s.trace slot;
        so = slot_read l after slot s.so cut is fine none;
        format = s.format;
        cache = s.cache;
        slots = ap (λ (ss : List SlotSpec). ss ++ slot ∷ []) s.slots;
        lines = no_lines s.trace.events after none;
        fit = s.fit;
        numbered = s.numbered;
      }

  event_more : (longest longest_line : ℕ) (l after : List ℕ) (event : Event A) → rest ≡ l ++ 10 ∷ after
      → SaysEvent j.format l event → bytes_len event.what ≤ longest → j.longest ≤ longest → 1 ≤ longest_line
      → ValidatedSofar A whole (record j { longest = longest; longest_line = longest_line }) (k + 1) after
  unfolding event_line
  event_more longest longest_line l after event cut parsed fits longer numbered =
      let es = s.trace.events in
      record {
        trace = with_event s.trace event;
        so = event_read l after event s.so cut parsed.fields parsed.fine
            (subst (λ (v : Format). IsWordOf v (word_for event.what)) (sym s.format) parsed.of_format);
        format = s.format;
        cache = s.cache;
        slots = s.slots;
        lines = taken j.events (map event_line es) (map event_line (es ++ event ∷ [])) rest l after s.lines cut
            (map_push event_line es event
            ∙ ap (λ (x : List ℕ). map event_line es
            ++ x ∷ []) (sym (line-fields_of l (event_fields event) parsed.fields)));
        fit = All-push (λ (e : Event A). bytes_len e.what ≤ longest) es event
            (All-weaker (λ (e : Event A). bytes_len e.what ≤ j.longest)
            (λ (e : Event A). bytes_len e.what ≤ longest) (λ e h. omega arith) es s.fit) fits;
        numbered = numbered;
      }

  validated_more : (new : Validation) (l after : List ℕ) → rest ≡ l ++ 10 ∷ after
      → ValidatesLine A (begun_before j rest) l after j new
      → ValidatedSofar A whole new (k + 1) after
  validated_more new l after cut (inl validates) =
      subst (λ (n : Validation). ValidatedSofar A whole n (k + 1) after) (sym validates.is)
      (slot_more l after validates.slot cut validates.parsed)
  validated_more new l after cut (inr validates) =
      subst (λ (n : Validation). ValidatedSofar A whole n (k + 1) after) (sym validates.is)
      (event_more new.longest new.longest_line l after validates.event cut validates.parsed
      validates.fits validates.longer (validates.numbered s.numbered))

  pub first_more : (new : Validation) (after : List ℕ) → ValidatesFirst A rest after j new
      → ValidatedSofar A whole new (k + 1) after
  first_more new after h = validated_more new h.line after h.ended h.validated

  -- ---- what is answered

  -- the fault of a line after the second
  pub fault_later : (fault : TraceFault) → fault.line ≡ k
      → (fault.kind ≢ kind.NoMemory → IsFault whole k fault.kind) → IsTraceFault A whole fault
  fault_later fault here named =
      let count = s.so.count in
      is_fault A whole fault (rw here named) (omega arith) (rw here (clean s.so))

  -- the next line is refused, or it isn't ended
  pub first_refused : (fault : FaultKind) → length rest ≢ 0 → RefusesFirst j rest fault → fault ≢ kind.NoMemory
      → IsFault whole k fault
  first_refused fault some (inl cut) known =
      subst (λ (f : FaultKind). IsFault whole k f) (sym cut.named) (is_cut s.so cut.last (λ e. some (ap length e)))
  first_refused fault some (inr next) known =
      is_refused s.so (begun_before j rest) next.line next.after fault next.cut
      (λ so. some_events
      (λ e. absurd (true≢false (sym so ∙ ap not (eq-eqb (length j.events) (length rest) e)))))
      (λ no'. no_events (eqb-true (length j.events) (length rest)
      (not-false (length j.events == length rest) no')))
      (subst (λ (v : Format). RefusesLine v (begun_before j rest) next.line fault) (sym s.format) next.refused) known

  -- nothing is left
  pub validated_whole : length rest ≡ 0 → IsValidated A whole j
  validated_whole none =
      let t = s.trace in
      let found = all_read s.so none in
      record {
        trace = t;
        read = record {
          found = found;
          range = s.so.fits.range;
          printable = s.so.fits.printable;
          only = λ u ru pu e. one_trace u t (record { range = ru; printable = pu }) s.so.fits (sym e ∙ found);
        };
        format = s.format;
        cache = s.cache;
        slots = s.slots;
        lines_of = record {
          fine = λ i d lt. record {
            fits = s.so.fits.range.events i d lt;
            printable = s.so.fits.printable.events i d lt;
          };
          spelled = s.lines ∙ ap (λ (xs : List ℕ). joined (map event_line t.events)
              ++ xs) (nil_from_length rest none) ∙ append-nil (joined (map event_line t.events));
        };
        fit = s.fit;
        numbered = s.numbered;
      }

-- there is no memory for the bytes of a line of a trace
pub no_room : (A : Type 0) (whole : List ℕ) (j : Validation) (fault : TraceFault) → IsValidated A whole j
    → fault.line ≡ j.longest_line → fault.kind ≡ kind.NoMemory → IsTraceFault A whole fault
no_room A whole j fault validated here want =
    let numbered = validated.numbered in
    is_fault A whole fault (λ known. absurd (known want)) (omega (arith, here))
    (subst (λ (text' : List ℕ). IsCleanBefore text' fault.line) (sym validated.read.found)
    (text_clean validated.trace fault.line
    (record { range = validated.read.range; printable = validated.read.printable })))
