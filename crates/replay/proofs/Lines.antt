-- The lines of events, taken one after another.
use Rattle.std.proofs.Common.{◌≡◌, ◌≢◌, ℕ, suc, ◌≤◌, List, [], ◌∷◌, ◌++◌, length, get_or, drop, map, sym, ap, subst, ◌∙◌, append_assoc, append-nil, arith}
use Rattle.std.proofs.lemmas.List.{append_cancel_left, length-append}
use Rattle.board.specs.declared.event.Event.{Event}
use Rattle.trace.specs.declared.format.Format.TheVariants.{Extended}
use Rattle.trace.specs.declared.read.parsed_event.ParsedEvent.{ParsedEvent}
use Rattle.trace.specs.Cuts.{fields_of, lines_of}
use Rattle.trace.specs.Validating.{AreEventLines, AreLinesOf, HaveRoom, bytes_len, parsed_len}
use Rattle.trace.specs.Refusals.{IsFine}
use Rattle.trace.specs.Events.{BeginsWithEvent, TakesEvent}
use Rattle.replay.specs.Running.{HasRoomFor, RunsLine, RunsParsed}
use Rattle.trace.specs.ParsedEvent.{parsed_fields}
use Rattle.trace.specs.Text.{ended, event_fields, event_line, front_text, joined}
use Rattle.trace.proofs.Entries.{cut_event}
use Rattle.trace.proofs.EventLines.{alone, alone_fits, begins_at, first_cut, unbroken}
use Rattle.trace.proofs.Printed.{text_is}
use Rattle.trace.proofs.Saying.{meant}
use Rattle.trace.proofs.Unique.{one_trace, same_event_fields}

-- ---- the events of lines

-- lines are those of one list of events
pub one_text : {A : Type 0} (ds es : List (Event A)) (lines : List ℕ) → AreLinesOf ds lines
    → AreLinesOf es lines → ds ≡ es
one_text ds es lines hd he =
    let same = ap (λ (x : List ℕ). (front_text Extended 0 ++ joined [])
    ++ x) (sym hd.spelled ∙ he.spelled) in
    ap (λ c. c.events) (one_trace (alone ds) (alone es) (alone_fits ds hd.fine) (alone_fits es he.fine)
    (sym (text_is (alone ds)) ∙ same ∙ text_is (alone es)))

-- ---- the next line

-- what was taken off is the first of the events, and the others are left
record IsNext {A : Type 0} (e : Event A) (left : List (Event A)) (parsed : ParsedEvent A)
    (after : List ℕ) : Type 0 where
  fields : event_fields e ≡ parsed_fields parsed
  fine : IsFine e
  more : AreLinesOf left after

next_is : {A : Type 0} (e : Event A) (left : List (Event A)) (rest : List ℕ) (parsed : ParsedEvent A)
    (after : List ℕ) → AreLinesOf (e ∷ left) rest → TakesEvent rest parsed after → IsNext e left parsed after
unfolding joined
next_is e left rest parsed after more takes =
    let fine = more.fine 0 e (omega arith) in
    let cut = ap lines_of more.spelled ∙ first_cut (event_line e) (map event_line left) (unbroken e fine) in
    let same : takes.line ≡ event_line e =
    ap (λ (ls : List (List ℕ)). get_or ls 0 []) (sym takes.lines ∙ cut) in
    let whole : event_line e ++ 10 ∷ after ≡ event_line e ++ 10 ∷ joined (map event_line left) =
    ap (λ (l : List ℕ). l ++ 10 ∷ after) (sym same) ∙ sym takes.ended ∙ more.spelled
    ∙ append_assoc (event_line e) (10 ∷ []) (joined (map event_line left)) in
    record {
      fields = sym (cut_event e fine) ∙ ap fields_of (sym same) ∙ takes.fields;
      fine = fine;
      more = record {
        fine = λ k d lt. more.fine (suc k) d (omega arith);
        spelled = ap (drop 1) (append_cancel_left (event_line e) (10 ∷ after)
            (10 ∷ joined (map event_line left)) whole);
      };
    }

none_taken : {A : Type 0} (rest : List ℕ) (parsed : ParsedEvent A) (after : List ℕ)
    → TakesEvent rest parsed after → rest ≡ [] → ⊥
none_taken rest parsed after takes none =
    omega (arith, ap length (sym none ∙ takes.ended), length-append takes.line (10 ∷ after))

-- there is room for its bytes
fits_at : {A : Type 0} (left : List (Event A)) (room : ℕ) (rest : List ℕ) (parsed : ParsedEvent A)
    (after : List ℕ) → AreLinesOf left rest → HaveRoom room left → TakesEvent rest parsed after
    → parsed_len parsed ≤ room
unfolding joined
fits_at [] room rest parsed after more fit takes = absurd (none_taken rest parsed after takes more.spelled)
fits_at {A} (e ∷ left) room rest parsed after more fit takes =
    let next = next_is e left rest parsed after more takes in
    let it = meant parsed takes.fine in
    let same = same_event_fields it.event e it.fine next.fine (it.fields_are ∙ sym next.fields) in
    let first : bytes_len e.what ≤ room = fit 0 e (omega arith) in
    let len = it.len in
    omega (arith, ap (λ (d : Event A). bytes_len d.what) same)

-- ---- the run so far

-- the first of the events are run, of which this holds, and the lines of the others are left
pub record RunSofar (A : Type 0) (lines : List ℕ) (room : ℕ) (rest : List ℕ) (Run : List (Event A)
    → Type 0) : Type 0 where
  pub done : List (Event A)
  pub left : List (Event A)
  pub whole : AreLinesOf (done ++ left) lines
  pub more : AreLinesOf left rest
  pub fit : HaveRoom room left
  pub run : Run done

pub run_none : (A : Type 0) (lines : List ℕ) (room : ℕ) (Run : List (Event A) → Type 0)
    → AreEventLines A room lines → Run [] → RunSofar A lines room lines Run
run_none A lines room Run h none =
    record { done = []; left = h.events; whole = h.lines_of; more = h.lines_of; fit = h.fit; run = none }

module _ (A : Type 0) (lines : List ℕ) (room : ℕ) (rest : List ℕ) (Run : List (Event A)
    → Type 0) (so : RunSofar A lines room rest Run) where
  pub begins : length rest ≢ 0 → BeginsWithEvent A rest
  begins some = begins_at so.left rest so.more some

  pub fits : HasRoomFor A rest room
  fits parsed after takes = fits_at so.left room rest parsed after so.more so.fit takes

-- one event more
more_at : (A : Type 0) (lines : List ℕ) (room : ℕ) (rest : List ℕ) (parsed : ParsedEvent A) (after : List ℕ)
    (done left : List (Event A)) (Old New : List (Event A) → Type 0) (One : Event A → Type 0)
    → AreLinesOf (done ++ left) lines → AreLinesOf left rest → HaveRoom room left → Old done
    → TakesEvent rest parsed after → RunsParsed parsed One
    → ((es : List (Event A)) (e : Event A) → Old es → One e → New (es ++ e ∷ []))
    → RunSofar A lines room after New
unfolding joined
more_at A lines room rest parsed after done [] Old New One whole more fit run takes it join =
    absurd (none_taken rest parsed after takes more.spelled)
more_at A lines room rest parsed after done (e ∷ left) Old New One whole more fit run takes it join =
    let next = next_is e left rest parsed after more takes in
    let same = same_event_fields it.event e it.fine next.fine (it.fields ∙ sym next.fields) in
    record {
      done = done ++ e ∷ [];
      left = left;
      whole = subst (λ (es : List (Event A)). AreLinesOf es lines)
          (sym (append_assoc done (e ∷ []) left)) whole;
      more = next.more;
      fit = λ k d lt. fit (suc k) d (omega arith);
      run = join done e run (subst One same it.run);
    }

pub run_more : (A : Type 0) (lines : List ℕ) (room : ℕ) (rest after : List ℕ) (Old New : List (Event A)
    → Type 0) (One : Event A → Type 0)
    → RunSofar A lines room rest Old → RunsLine A rest after One
    → ((es : List (Event A)) (e : Event A) → Old es → One e → New (es ++ e ∷ []))
    → RunSofar A lines room after New
run_more A lines room rest after Old New One so it join =
    more_at A lines room rest it.parsed after so.done so.left Old New One so.whole so.more so.fit so.run
    it.taken it.ran join

-- no line is left
all_at : (A : Type 0) (lines : List ℕ) (rest : List ℕ) (done left events : List (Event A))
    (Run : List (Event A) → Type 0)
    → AreLinesOf (done ++ left) lines → AreLinesOf left rest → Run done → length rest ≡ 0
    → AreLinesOf events lines → Run events
unfolding joined
all_at A lines rest done [] events Run whole more run none are =
    subst Run (sym (append-nil done) ∙ one_text (done ++ []) events lines whole are) run
all_at A lines rest done (e ∷ left) events Run whole more run none are =
    absurd (omega (
      arith,
      ap length more.spelled,
      length-append (ended (event_line e)) (joined (map event_line left)),
      length-append (event_line e) (10 ∷ []),
    ))

pub run_all : (A : Type 0) (lines : List ℕ) (room : ℕ) (rest : List ℕ) (events : List (Event A))
    (Run : List (Event A) → Type 0)
    → RunSofar A lines room rest Run → length rest ≡ 0 → AreLinesOf events lines → Run events
run_all A lines room rest events Run so none are =
    all_at A lines rest so.done so.left events Run so.whole so.more so.run none are

-- the same of what waited before and after by other names
pub by_both : {X : Type 0} (Run : X → X → Type 0) {a b c d : X} → a ≡ c → b ≡ d → Run a b → Run c d
by_both Run {a} {b} {c} {d} start last run = subst (λ x. Run x d) start (subst (λ x. Run a x) last run)
