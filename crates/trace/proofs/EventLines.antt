-- The line of an event: it is refused in no way, and what is taken off a text that begins with it.
use Rattle.std.proofs.Common.{◌≡◌, ◌≢◌, ℕ, List, [], ◌∷◌, ◌++◌, All, length, get_or, map, true, refl, sym, ap, subst, ◌∙◌, arith}
use Rattle.std.proofs.lemmas.List.{append_assoc}
use Rattle.std.proofs.lemmas.List.Elements.{All-cons, All-nil}
use Rattle.board.specs.declared.event.Event.{Event}
use Rattle.trace.specs.declared.format.Format.TheVariants.{Extended}
use Rattle.trace.specs.declared.fault.FaultKind.{FaultKind}
use Rattle.trace.specs.declared.fault.FaultKind.TheVariants as kind
use Rattle.trace.specs.declared.read.parsed_event.ParsedEvent.{ParsedEvent}
use Rattle.trace.specs.Cuts.{fields_of, lines_of}
use Rattle.trace.specs.Events.{BeginsWithEvent, IsLineOf, TakesEvent}
use Rattle.trace.specs.ParsedEvent.{IsFineParsed, parsed_fields}
use Rattle.trace.specs.Printable.{IsPrintableSlot, SlotInRange}
use Rattle.trace.specs.Refusals.{IsFine, RefusesLine}
use Rattle.trace.specs.Validating.{AreLinesOf}
use Rattle.trace.specs.Text.{Content, event_fields, event_line, joined, text, trace_lines, word_for}
use Rattle.trace.proofs.Entries.{cut_event, entered_event}
use Rattle.trace.proofs.Printed.{joined_append}
use Rattle.trace.proofs.Saying.{meant}
use Rattle.trace.proofs.Signs.{Above, line-fields_of, lines_of-joined, lines_of-line}
use Rattle.trace.proofs.Sofar.{Fits, Sofar, is_refused, push_event}
use Rattle.trace.proofs.Unique.{no_fault}
use Rattle.trace.proofs.Formats.{word_of_extended}

-- ---- a trace of these events alone

abbrev pub alone : {A : Type 0} → List (Event A) → Content A
alone events = record { format = Extended; cache = 0; slots = []; events = events }

pub alone_fits : {A : Type 0} (events : List (Event A)) → All IsFine events → Fits (alone events)
alone_fits events fine = record {
  range = record { cache = omega arith; slots = All-nil SlotInRange; events = λ k d lt. (fine k d lt).fits };
  printable = record {
    slots = All-nil (IsPrintableSlot Extended);
    events = λ k d lt. (fine k d lt).printable;
    words =
        λ k d lt. word_of_extended (word_for (get_or events k d).what);
  };
}

-- ---- the line of an event

pub unbroken : {A : Type 0} (e : Event A) → IsFine e → Above 10 (event_line e)
unbroken e fine = (entered_event Extended e fine (word_of_extended (word_for e.what))).entry.unbroken

-- lines cut after the first
pub first_cut : (l : List ℕ) (ls : List (List ℕ)) → Above 10 l
    → lines_of (joined (l ∷ ls)) ≡ l ∷ lines_of (joined ls)
first_cut l ls h = ap lines_of (joined_append (l ∷ []) ls) ∙ lines_of-joined (l ∷ []) (joined ls) (h, tt)

-- it is refused in no way: it would be a fault of a text of two such lines
refused_not : {A : Type 0} (e : Event A) (fault : FaultKind) → IsFine e → fault ≢ kind.NoMemory
    → RefusesLine Extended true (event_line e) fault → ⊥
refused_not {A} e fault fine known h =
    let one : Content A = alone (e ∷ []) in
    let two : Content A = alone (e ∷ e ∷ []) in
    let all : All IsFine (e ∷ e ∷ []) =
    All-cons IsFine e (e ∷ []) fine (All-cons IsFine e [] fine (All-nil IsFine)) in
    let rest : List ℕ = joined (event_line e ∷ []) in
    let so : Sofar (text two) one 4 rest = record {
      spelled = ap joined (push_event one e) ∙ joined_append (trace_lines one) (event_line e ∷ []);
      fits = alone_fits (e ∷ []) (All-cons IsFine e [] fine (All-nil IsFine));
      count = refl;
    } in
    no_fault (text two) two 4 fault (alone_fits (e ∷ e ∷ []) all) refl
    (is_refused so true (event_line e) (joined []) fault
    (first_cut (event_line e) [] (unbroken e fine)) (λ _. omega arith) (λ no'. absurd cc) h known)

pub never_refused : {A : Type 0} (e : Event A) → IsFine e → (fault : FaultKind)
    → RefusesLine Extended true (event_line e) fault → ⊥
never_refused e fine kind.NoMemory h = h.refused
never_refused e fine fault h = refused_not e fault fine (λ is. cc) h

-- a line that is refused says no event
pub refused_says_none : {A : Type 0} (line : List ℕ) (fault : FaultKind)
    → RefusesLine Extended true line fault → (e : Event A) → IsFine e → event_fields e ≢ fields_of line
unfolding event_line
refused_says_none line fault refused e fine is =
    never_refused e fine fault
    (subst (λ (l : List ℕ). RefusesLine Extended true l fault) (line-fields_of line (event_fields e) (sym is))
    refused)

-- ---- a text that begins with it

-- lines of events, of which some are left
pub begins_at : {A : Type 0} (left : List (Event A)) (rest : List ℕ) → AreLinesOf left rest → length rest ≢ 0
    → BeginsWithEvent A rest
unfolding joined
begins_at [] rest more some = absurd (some (ap length more.spelled))
begins_at (e ∷ left) rest more some =
    record {
      event = e;
      after = joined (map event_line left);
      begins = record {
        fine = more.fine 0 e (omega arith);
        is = more.spelled ∙ append_assoc (event_line e) (10 ∷ []) (joined (map event_line left));
      };
    }

-- it is cut behind that line
pub cut_behind : {A : Type 0} (text : List ℕ) (e : Event A) (after : List ℕ) → IsLineOf text e after
    → lines_of text ≡ event_line e ∷ lines_of after
cut_behind text e after h = ap lines_of h.is ∙ lines_of-line (event_line e) after (unbroken e h.fine)

-- the line that was cut off is refused in no way
pub cut_never_refused : (A : Type 0) (text line rest : List ℕ) → BeginsWithEvent A text
    → lines_of text ≡ line ∷ lines_of rest → (fault : FaultKind) → ¬ RefusesLine Extended true line fault
cut_never_refused A text line rest h cut fault refused =
    let same : event_line h.event ≡ line =
    ap (λ (ls : List (List ℕ)). get_or ls 0 []) (sym (cut_behind text h.event h.after h.begins) ∙ cut) in
    never_refused h.event h.begins.fine fault
    (subst (λ (l : List ℕ). RefusesLine Extended true l fault) (sym same) refused)

-- a line that says an event begins a text
pub parsed_begins : {A : Type 0} (s : ParsedEvent A) (line after : List ℕ) → fields_of line ≡ parsed_fields s
    → IsFineParsed s → BeginsWithEvent A (line ++ 10 ∷ after)
unfolding event_line
parsed_begins s line after is fine =
    let it = meant s fine in
    let same = line-fields_of line (event_fields it.event) (is ∙ sym it.fields_are) in
    record {
      event = it.event;
      after = after;
      begins = record { fine = it.fine; is = ap (λ (l : List ℕ). l ++ 10 ∷ after) same };
    }

-- what says the same fields was taken off
pub line_taken : {A : Type 0} (s : ParsedEvent A) (e : Event A) (text after : List ℕ) → IsLineOf text e after
    → event_fields e ≡ parsed_fields s → IsFineParsed s → TakesEvent text s after
line_taken s e text after h same fine = record {
  line = event_line e;
  ended = h.is;
  lines = cut_behind text e after h;
  fields = cut_event e h.fine ∙ same;
  fine = fine;
}
