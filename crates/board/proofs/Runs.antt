-- A run, event by event.
use Rattle.std.proofs.Common.{◌≡◌, ◌≢◌, ℕ, ◌+◌, ◌<◌, ◌≤◌, List, [], ◌∷◌, ◌++◌, length, take, Result, Ok, Err, false, get_or, refl, sym, ◌∙◌, ap, subst, append_assoc, append-nil, arith}
use Rattle.std.specs.Prelude.{All, OnOk, is_err}
use Rattle.std.proofs.lemmas.List.{length-map, map-append, take_more, take_all, take-take, get_or-take, length-take-le}
use Rattle.std.proofs.lemmas.List.Elements.{All-head, All-tail, All-push, All-same, All-take}
use Rattle.board.specs.declared.event.Event.{Event}
use Rattle.board.specs.declared.reply.Reply.{Reply}
use Rattle.board.specs.declared.reply.Reply.TheVariants.{BadSlot, NoMemory}
use Rattle.board.specs.declared.reply.Record.{Record}
use Rattle.board.specs.Slot.{BoardSlot, whole_extent}
use Rattle.board.specs.World.{BoardState, IsMissed, World, Step, Handles, Answers, KeepsOthers, bad_slot, record_with, extents_of}
use Rattle.board.specs.Line.{AnswersMissing, Move, IsLine, IsQuiet, HadMemory, HasInterruptWords, IsRun, KeepsIdle, events_of, records_of}
use Rattle.board.proofs.Alone.{alone, recorded_slot}
use Rattle.board.proofs.Failures.{given_failures}
use Rattle.board.proofs.Noted.{line_noted}
use Rattle.board.proofs.Seats.{by_slot}
use Rattle.board.proofs.Steps.{lines_join}

-- the image's failures never fall: in a step
pub step_failures : {A : Type 0} (old : World) (event : Event A) (written : Record A) (new : World)
    → Step old event written new → old.health.failures ≤ new.health.failures
step_failures old event written new step =
    by_slot old event written new
    (λ missing. let same : new.health.failures ≡ old.health.failures =
    ap (λ (w : World). w.health.failures) missing.same in omega arith)
    (λ state here own. given_failures state event.what old.health new.health own.outcome own.given) step

-- and in a line
pub line_failures : {A : Type 0} (old : World) (moves : List (Move A)) (new : World) → IsLine old moves new
    → old.health.failures ≤ new.health.failures
line_failures old [] new line = let same : new.health.failures ≡ old.health.failures =
    ap (λ (w : World). w.health.failures) line in omega arith
line_failures old (move ∷ moves) new line =
    let first : old.health.failures ≤ move.after.health.failures =
    step_failures old move.event move.written move.after line.0 in
    let rest : move.after.health.failures ≤ new.health.failures = line_failures move.after moves new line.1 in
    omega arith

-- the bytes outside all extents stay: in a step
pub step_outside : {A : Type 0} (old : World) (event : Event A) (written : Record A) (new : World)
    → Step old event written new → new.outside ≡ old.outside
step_outside old event written new step =
    by_slot old event written new (λ missing. ap (λ (w : World). w.outside) missing.same)
    (λ state here own. own.outside) step

-- and in a line
pub line_outside : {A : Type 0} (old : World) (moves : List (Move A)) (new : World) → IsLine old moves new
    → new.outside ≡ old.outside
line_outside old [] new line = ap (λ (w : World). w.outside) line
line_outside old (move ∷ moves) new line = line_outside move.after moves new line.1
    ∙ step_outside old move.event move.written move.after line.0

-- where no call of the image failed in a whole line, a guest without a record of NoMemory is quiet
quiet : {A : Type 0} (g : ℕ) (old : World) (moves : List (Move A)) (new : World) → IsLine old moves new
    → new.health.failures ≡ old.health.failures → HadMemory g (records_of moves) → IsQuiet g old moves
quiet g old [] new line stood had = tt
quiet {A} g old (move ∷ moves) new line stood had =
    let first : old.health.failures ≤ move.after.health.failures =
    step_failures old move.event move.written move.after line.0 in
    let rest : move.after.health.failures ≤ new.health.failures = line_failures move.after moves new line.1 in
    let P : Record A → Type 0 = λ entry. entry.slot ≡ g → entry.reply ≢ NoMemory in (
      record {
        memory = λ mine. All-head P move.written (records_of moves) had
            (recorded_slot old move.event move.written move.after line.0 ∙ mine);
        image = λ mine. omega arith;
      },
      quiet g move.after moves new line.1 (omega arith) (All-tail P move.written (records_of moves) had),
    )

-- where the board handled an event it answered it
pub answered : {A : Type 0} {old : World} {event : Event A} {reply : Reply A} {block console : ℕ}
    {before after : List ℕ} {new : World} → Handles old event reply block console before after new
    → Answers old event reply before after new
answered h = record { written = _; step = h.step; replied = refl; appended = h.appended }

-- another record joins those whose words are right
pub words_more : {A : Type 0} (so_far after : List (Record A)) (entry : Record A) → after ≡ so_far
    ++ entry ∷ [] → All HasInterruptWords so_far → HasInterruptWords entry → All HasInterruptWords after
words_more {A} so_far after entry added words own =
    let P : Record A → Type 0 = λ w. HasInterruptWords w in
    subst (λ (rs : List (Record A)). All P rs) (sym added) (All-push P so_far entry words own)

-- the record of an event of a slot that isn't there joins those of other such events
pub missing_more : {I A : Type 0} {old new : BoardState I} (slots now : List BoardSlot)
    (so_far after : List (Record A)) (h : ℕ) (reply : Reply A) (out : List ℕ) (block console : ℕ) →
    after ≡ so_far ++ record_with h reply out block console ∷ [] →
    extents_of now ≡ extents_of slots → All (AnswersMissing (length slots)) so_far →
    (length now ≤ h → reply ≡ BadSlot) → (length now ≤ h → IsMissed old new [] out block console) →
    All (AnswersMissing (length slots)) after
missing_more {A = A} slots now so_far after h reply out block console added many before bad rest =
    let P : Record A → Type 0 = λ w. AnswersMissing (length slots) w in
    subst (λ (rs : List (Record A)). All P rs) (sym added) (All-push P so_far _ before is)
  where
    as_many : length now ≡ length slots
    as_many = sym (length-map now whole_extent) ∙ (ap length many ∙ length-map slots whole_extent)

    is : length slots ≤ h → record_with h reply out block console ≡ bad_slot {A = A} h
    is past = let away : length now ≤ h = omega (arith, as_many, past) in let missed = rest away in
        rw (bad away, missed.silent, missed.block, missed.console) refl

-- a line over some events, whose records were added to those before it, is a run
pub run_of : {A : Type 0} (old new : World) (events : List (Event A)) (before after : List (Record A))
    (moves : List (Move A)) → IsLine old moves new → events_of moves ≡ events
    → after ≡ before ++ records_of moves → IsRun old new events before after
run_of old new events before after moves line events_are records_are = record {
  moves = moves;
  line = line;
  events_are = events_are;
  records_are = records_are;
  alone = λ g still. alone g old moves new line still;
  noted = λ g. line_noted g old moves new line;
  quiet = λ stood g had. quiet g old moves new line stood had;
}

-- before the first event
pub run_none : {A : Type 0} (world : World) (before : List (Record A)) → IsRun world world [] before before
run_none world before = run_of world world [] before before [] refl refl (sym (append-nil before))

-- two runs, the second from where the first ends, are one
pub runs_join : {A : Type 0} (old mid new : World) (events more : List (Event A))
    (before between after : List (Record A)) → IsRun old mid events before between
    → IsRun mid new more between after → IsRun old new (events ++ more) before after
runs_join {A} old mid new events more before between after one other =
    run_of old new (events ++ more) before after (one.moves ++ other.moves)
    (lines_join (λ (world : World) (move : Move A). Step world move.event move.written move.after)
    (λ (move : Move A). move.after) old mid new one.moves other.moves one.line other.line)
    (map-append (λ (m : Move A). m.event) one.moves other.moves
    ∙ (ap (λ es. es ++ events_of other.moves) one.events_are
    ∙ ap (λ es. events ++ es) other.events_are))
    (other.records_are
    ∙ (ap (λ rs. rs ++ records_of other.moves) one.records_are
    ∙ (append_assoc before (records_of one.moves) (records_of other.moves)
    ∙ ap (λ rs. before ++ rs) (sym (map-append (λ (m : Move A). m.written) one.moves other.moves)))))

-- a step is a run of one event
pub step_run : {A : Type 0} (old new : World) (event : Event A) (written : Record A)
    (before : List (Record A)) → Step old event written new
    → IsRun old new (event ∷ []) before (before ++ written ∷ [])
step_run {A} old new event written before step =
    let move : Move A = record { event = event; written = written; after = new } in
    run_of old new (event ∷ []) before (before ++ written ∷ []) (move ∷ []) (step, refl) refl refl

-- what holds where a call succeeded, of one that did
pub where_ok : {T E : Type 0} (r : Result T E) (P : Type 0) → is_err r ≡ false → OnOk r P → P
where_ok (Ok x) P succeeded holds = holds
where_ok (Err e) P succeeded holds = absurd (cc)

-- the run goes on by the next of its events, which the board handles
pub run_next : {A : Type 0} (old mid new : World) (events : List (Event A)) (done : ℕ) (event : Event A)
    (reply : Reply A) (block console : ℕ) (out : List ℕ) (before so_far after : List (Record A)) →
    done < length events → event ≡ get_or events done event →
    IsRun old mid (take done events) before so_far → Handles mid event reply block console [] out new →
    after ≡ so_far ++ record_with event.slot reply out block console ∷ [] →
    IsRun old new (take (done + 1) events) before after
run_next {A} old mid new events done event reply block console out before so_far after below is
    run handles added =
    let next : take (done + 1) events ≡ take done events ++ event ∷ [] = take_more events done event below
    ∙ ap (λ (e : Event A). take done events ++ e ∷ []) (sym is) in
    let written : Record A = record_with event.slot reply handles.output block console in
    let records : after ≡ so_far ++ written ∷ [] = added
    ∙ ap (λ (output : List ℕ). so_far ++ record_with event.slot reply output block console ∷ [])
    handles.appended in
    rw (next, records) (runs_join old mid new (take done events) (event ∷ []) before so_far (so_far
    ++ written ∷ []) run (step_run mid new event written so_far handles.step))

-- after the last event it is a run over all of them
pub run_whole : {A : Type 0} (old new : World) (events : List (Event A)) (done : ℕ)
    (before after : List (Record A)) → length events ≤ done → IsRun old new (take done events) before after
    → IsRun old new events before after
run_whole {A} old new events done before after all run =
    subst (λ (es : List (Event A)). IsRun old new es before after) (take_all done events all) run

-- one event more: slots that no event is of are kept still
pub idle_next : {A : Type 0} (events : List (Event A)) (done : ℕ) (event : Event A)
    (old mid new : List BoardSlot) →
    done < length events → event ≡ get_or events done event →
    KeepsIdle (take done events) old mid → KeepsOthers event.slot mid new
    → KeepsIdle (take (done + 1) events) old new
idle_next {A} events done event old mid new below is before step other idle = step other differs
    ∙ before other front
  where
    fits : done < length (take (done + 1) events)
    fits = omega (arith, length-take-le (done + 1) events (omega arith))

    differs : other ≢ event.slot
    differs same =
        let last : get_or (take (done + 1) events) done event ≡ event =
        get_or-take (done + 1) events done event (omega arith) ∙ sym is in
        idle done event fits (ap (λ (e : Event A). e.slot) last ∙ sym same)

    front : All (λ e. e.slot ≢ other) (take done events)
    front = All-same (λ (e : Event A). e.slot ≢ other) _ _
        (sym (take-take done (done + 1) events (omega arith)))
        (All-take (λ (e : Event A). e.slot ≢ other) done (take (done + 1) events) idle)

-- and after the last event they were kept by all
pub idle_whole : {A : Type 0} (events : List (Event A)) (done : ℕ) (old new : List BoardSlot)
    → length events ≤ done → KeepsIdle (take done events) old new → KeepsIdle events old new
idle_whole {A} events done old new all kept =
    subst (λ (es : List (Event A)). KeepsIdle es old new) (take_all done events all) kept
