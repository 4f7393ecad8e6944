-- Each guest of a session, as its own calls decide it.
use Rattle.std.proofs.Common.{◌≡◌, ◌≢◌, ℕ, Option, Some, None, List, ◌++◌, take, drop, refl, sym, ◌∙◌, ap, subst}
use Rattle.std.specs.List.{slice_get}
use Rattle.board.specs.declared.event.Event.{Event}
use Rattle.board.specs.declared.event.EventKind.{EventKind}
use Rattle.board.specs.declared.reply.Reply.{Reply}
use Rattle.board.specs.declared.reply.Record.{Record}
use Rattle.board.specs.Machine.{IsNext}
use Rattle.board.specs.Slot.{SlotState}
use Rattle.board.specs.World.{World}
use Rattle.board.specs.Within.{Seat, IsNextWithin}
use Rattle.board.proofs.Alone.{served, slot_step, get_set}
use Rattle.board.proofs.OneRun.{next_of}
use Rattle.board.proofs.OneSeat.{seat_once}
use Rattle.board.proofs.Steps.{IsOwn, each_along, one_course, own_alone}
use Rattle.board.specs.declared.pause.Pause.{Pause}
use Rattle.output_queue.specs.Waiting.{Waiting}
use Rattle.session.specs.declared.response.Response.{Response}
use Rattle.session.specs.declared.response.Response.TheVariants.{Answered, More, Busy, Idle}
use Rattle.session.specs.Alone.{Begins, GoesOn, OwnCall, IsNextAsked, IsSeatCourse, IsSeatedAlone, SeeAlike, own_answers, own_askings, own_call, seat_of}
use Rattle.session.specs.Course.{Happens, SessionStep, IsCalled, IsCourse, IsTaken, NeverPauses, paced_world_of}
use Rattle.session.specs.Line.{IsIdle}
use Rattle.session.specs.Pacing.{Call, GoOn, Handle, slot_in}
use Rattle.session.specs.Pausing.{ComesTo}
use Rattle.session.specs.Session.{IsStep, SessionState, limit_of, output_of, world_of}
use Rattle.session.specs.Steps.{Answer, Asking, Called, Does, Gave, IsAnsweredSo, Takes, Told, Took, after_step, answer_of, asking_of, slot_of}
use Rattle.session.proofs.PacedAlone.{others_at}
use Rattle.session.proofs.PacedCourses.{by_pause, step_of}
use Rattle.session.proofs.Suiting.{never_busy, never_idle}
use Rattle.session.proofs.Waiting.{others_wait}

-- what a guest's own event comes to
pub record OwnEvent {A : Type 0} (h : ℕ) (state : SlotState) (what : EventKind A) (reply : Reply A)
    (old new : SessionState) : Type 0 where
  pub last : SlotState
  pub next : IsNextWithin (limit_of h old) (seat_of h state old) what reply (seat_of h last new)
  pub there : slice_get (world_of new).slots h ≡ Some last

pub own_event : {A : Type 0} (old new : SessionState) (event : Event A) (reply : Reply A) (state : SlotState)
    → IsStep old event reply new → slice_get (world_of old).slots event.slot ≡ Some state
    → OwnEvent event.slot state event.what reply old new
own_event {A} old new event reply state h here =
    let answers = h.answers in
    let written = answers.written in
    let step = slot_step (world_of old) event written (world_of new) state here answers.step in
    let outcome = step.outcome in
    let said : outcome.reply ≡ reply = sym (ap (λ (w : Record A). w.reply) step.recorded) ∙ answers.replied in
    let put : written.output ≡ outcome.output = ap (λ (w : Record A). w.output) step.recorded in
    let there : slice_get (world_of new).slots event.slot ≡ Some outcome.state =
    ap (λ (slots : List SlotState). slice_get slots event.slot) step.slots
    ∙ get_set (world_of old).slots event.slot state outcome.state here in
    record {
      last = outcome.state;
      next = record {
        output = outcome.output;
        behind = answers.appended ∙ ap (λ (bytes : List ℕ). output_of event.slot old ++ bytes) put;
        within = h.within state outcome.state here there;
        served = λ answered.
            subst (λ (r : Reply A). IsNext state event.what
            (record { state = outcome.state; reply = r; output = outcome.output })) said
            (next_of state event.what (world_of old).health (world_of new).health outcome
            (served state event.what (world_of old).health (world_of new).health outcome step.given
            (λ none. answered (sym said ∙ none)) refl));
        refused = λ none. h.refused none state here;
      };
      there = there;
    }

-- guest g sits so in a session, and nothing of it is paused; so much of its output may wait
record Sits (limit g : ℕ) (seat : Seat) (session : SessionState) : Type 0 where
  there : slice_get (world_of session).slots g ≡ Some seat.state
  waits : output_of g session ≡ seat.waiting
  idle : IsIdle g (paced_world_of session)
  limited : limit_of g session ≡ limit

module _ {A : Type 0} (limit : ℕ) where
  abbrev NeverMore : Response A → Type 0
  NeverMore response = response ≢ More

  abbrev Came : Seat → SessionStep A → Type 0
  Came seat step =
      IsOwn Happens after_step (slot_of slot_in) (Sits limit) (asking_of own_call) answer_of
      (IsNextAsked limit) seat step

  -- a call of a slot of which nothing is paused, and which doesn't pause
  own_called : (old : SessionState) (call : Call A) (response : Response A)
      (after : SessionState) (seat : Seat)
      → IsCalled old call response after → ComesTo call (Some None) old response after → response ≢ More
      → Sits limit (slot_in call) seat old → Came seat (Called call response after)
  own_called old (Handle event) (Answered reply) after seat h comes never sits =
      let came = own_event old after event reply seat.state h.whole sits.there in
      let same : seat_of event.slot seat.state old ≡ seat =
      ap (λ (w : List ℕ). record { state = seat.state; waiting = w }) sits.waits in
      record {
        last = seat_of event.slot came.last after;
        next = subst (λ (s : Seat). IsNextWithin limit s event.what reply
            (seat_of event.slot came.last after)) same (subst (λ (n : ℕ). IsNextWithin n
            (seat_of event.slot seat.state old) event.what reply (seat_of event.slot came.last after))
            sits.limited came.next);
        sits = record {
          there = came.there;
          waits = refl;
          idle = ap (λ (ps : List (Option Pause)). slice_get ps event.slot) h.whole.paused ∙ sits.idle;
          limited = h.whole.limits event.slot ∙ sits.limited;
        };
      }
  own_called old (Handle event) More after seat h comes never sits = absurd (never refl)
  own_called old (Handle event) Busy after seat h comes never sits =
      absurd (never_busy comes.turn.turn (sym comes.turn.told))
  own_called old (Handle event) Idle after seat h comes never sits =
      absurd (never_idle comes.turn.turn (sym comes.turn.told))
  own_called old (GoOn slot) response after seat h comes never sits =
      record {
        last = seat;
        next = (comes.0, refl);
        sits = subst (λ (s : SessionState). Sits limit slot seat s) (sym comes.1) sits;
      }

  -- the first bytes that wait are what is taken
  own_taken : (old : SessionState) (slot room : ℕ) (bytes : List ℕ) (after : SessionState) (seat : Seat)
      → IsTaken old slot room bytes after → Sits limit slot seat old → Came seat (Took slot room bytes after)
  own_taken old slot room bytes after seat h sits = record {
    last = record seat { waiting = drop room seat.waiting };
    next = (h.first ∙ ap (λ (w : List ℕ). take room w) sits.waits, refl);
    sits = record {
      there = ap (λ (w : World). slice_get w.slots slot) h.world ∙ sits.there;
      waits = h.left ∙ ap (λ (w : List ℕ). drop room w) sits.waits;
      idle = ap (λ (ps : List (Option Pause)). slice_get ps slot) h.paused ∙ sits.idle;
      limited = h.limits slot ∙ sits.limited;
    };
  }

  own_step : (old : SessionState) (step : SessionStep A) (seat : Seat) → Happens old step
      → IsAnsweredSo slot_in NeverMore (slot_of slot_in step) step
      → Sits limit (slot_of slot_in step) seat old → Came seat step
  own_step old (Called call response after) seat h never sits =
      own_called old call response after seat h
      (subst (λ (p : Option (Option Pause)). ComesTo call p old response after) sits.idle
      (by_pause old call response after h)) (never refl) sits
  own_step old (Took slot room bytes after) seat h never sits =
      own_taken old slot room bytes after seat h sits

  others_step : (g : ℕ) (old : SessionState) (step : SessionStep A) (seat : Seat) → slot_of slot_in step ≢ g
      → Happens old step → Sits limit g seat old → Sits limit g seat (after_step step)
  others_step g old (Called call response after) seat other h sits =
      let s = step_of old call response after (by_pause old call response after h) in
      let kept = others_at g old.budget call (slice_get old.paused (slot_in call))
      (paced_world_of old) response
      s.output s.block s.console (paced_world_of after) other s.comes in
      record {
        there = kept.slot ∙ sits.there;
        waits = ap (λ (w : Waiting). w.bytes)
            (others_wait g (slot_in call) old.outputs after.outputs s.outputs other) ∙ sits.waits;
        idle = kept.paused ∙ sits.idle;
        limited = s.limits g ∙ sits.limited;
      }
  others_step g old (Took slot room bytes after) seat other h sits = record {
    there = ap (λ (w : World). slice_get w.slots g) h.world ∙ sits.there;
    waits = ap (λ (w : Waiting). w.bytes) (others_wait g slot old.outputs after.outputs h.others other)
        ∙ sits.waits;
    idle = ap (λ (ps : List (Option Pause)). slice_get ps g) h.paused ∙ sits.idle;
    limited = h.limits g ∙ sits.limited;
  }

pub seated_alone : {A : Type 0} (g : ℕ) (old : SessionState) (steps : List (SessionStep A))
    (new : SessionState) (state : SlotState) → IsCourse old steps new → NeverPauses g steps
    → slice_get (world_of old).slots g ≡ Some state → IsIdle g (paced_world_of old)
    → IsSeatedAlone g state old steps new
seated_alone {A} g old steps new state course never here idle =
    let limit = limit_of g old in
    let is = own_alone Happens after_step (slot_of slot_in) (Sits limit) (asking_of own_call) answer_of
    (IsNextAsked limit) (λ k was step. IsAnsweredSo slot_in (NeverMore {A = A} limit) k step)
    (own_step limit) (others_step limit) g old steps new (seat_of g state old) course
    (each_along Happens after_step (IsAnsweredSo slot_in (NeverMore {A = A} limit) g) old steps never)
    (record { there = here; waits = refl; idle = idle; limited = refl }) in
    record {
      last = is.last.state;
      own = subst (λ (w : List ℕ). IsSeatCourse limit (seat_of g state old) (own_askings g steps)
          (own_answers g steps) (record { state = is.last.state; waiting = w })) (sym is.sits.waits) is.own;
      state_after = is.sits.there;
    }

-- ---- and so its own calls decide all that it sees

asked_once : {A : Type 0} (limit : ℕ) (old one other : Seat) (asking : Asking (OwnCall A))
    (p q : Answer (Response A))
    → IsNextAsked limit old asking p one → IsNextAsked limit old asking q other → (p ≡ q) × (one ≡ other)
asked_once {A} limit old one other (Does (Begins what)) (Told (Answered p)) (Told (Answered q)) x y =
    let same = seat_once limit old one other what p q x y in
    (ap (λ (r : Reply A). Told (Answered r)) same.0, same.1)
asked_once limit old one other (Does (Begins what)) (Told (Answered p)) q x y = absurd y
asked_once {A} limit old one other (Does GoesOn) (Told p) (Told q) x y =
    (ap (λ (r : Response A). Told r) (x.0 ∙ sym y.0), x.1 ∙ sym y.1)
asked_once limit old one other (Does GoesOn) (Told p) (Gave q) x y = absurd y
asked_once {A} limit old one other (Takes room) (Gave p) (Gave q) x y =
    let gave : List ℕ → Answer (Response A) = λ b. Gave b in
    (ap gave (x.0 ∙ sym y.0), x.1 ∙ sym y.1)
asked_once limit old one other (Takes room) (Gave p) (Told q) x y = absurd y
asked_once limit old one other asking p q x y = absurd x

pub seat_course_once : {A : Type 0} (limit : ℕ) (old : Seat) (askings : List (Asking (OwnCall A)))
    (one other : List (Answer (Response A))) (s t : Seat) → IsSeatCourse limit old askings one s
    → IsSeatCourse limit old askings other t → (one ≡ other) × (s ≡ t)
seat_course_once limit old askings one other s t x y =
    one_course (IsNextAsked limit) (asked_once limit) old askings one other s t x y

-- A guest of one session and one of another, as the same slot with the same output: where the same is asked
-- of both, both see the same.
pub see_alike : {A : Type 0} (g h : ℕ) (old new other last : SessionState) (steps more : List (SessionStep A))
    (state : SlotState) → IsCourse old steps new → IsCourse other more last → NeverPauses g steps
    → NeverPauses h more
    → IsIdle g (paced_world_of old) → IsIdle h (paced_world_of other)
    → slice_get (world_of old).slots g ≡ Some state → slice_get (world_of other).slots h ≡ Some state
    → output_of h other ≡ output_of g old → limit_of h other ≡ limit_of g old
    → own_askings h more ≡ own_askings g steps
    → SeeAlike g steps new h more last
see_alike {A} g h old new other last steps more state x y never never' idle idle' here there out lim askings =
    let a = seated_alone g old steps new state x never here idle in
    let b = seated_alone h other more last state y never' there idle' in
    let two : IsSeatCourse (limit_of h other) (record { state = state; waiting = output_of h other })
    (own_askings h more) (own_answers h more) (seat_of h b.last last) = b.own in
    let three : IsSeatCourse (limit_of g old) (seat_of g state old) (own_askings g steps) (own_answers h more)
    (seat_of h b.last last) =
    subst (λ (c : List (Asking (OwnCall A))). IsSeatCourse (limit_of g old) (seat_of g state old) c
    (own_answers h more)
    (seat_of h b.last last)) askings
    (subst (λ (w : List ℕ). IsSeatCourse (limit_of g old) (record { state = state; waiting = w })
    (own_askings h more) (own_answers h more) (seat_of h b.last last)) out
    (subst (λ (n : ℕ). IsSeatCourse n (record { state = state; waiting = output_of h other })
    (own_askings h more) (own_answers h more) (seat_of h b.last last)) lim two)) in
    let same = seat_course_once (limit_of g old) (seat_of g state old) (own_askings g steps)
    (own_answers g steps) (own_answers h more) (seat_of g a.last new)
    (seat_of h b.last last) a.own three in
    record {
      answers = same.0;
      waiting = ap (λ (s : Seat). s.waiting) same.1;
      state = a.state_after ∙ (ap (λ (s : Seat). Some s.state) same.1 ∙ sym b.state_after);
    }
