-- Each guest of a session whose services may pause and may find no room, as its own calls decide it.
use Rattle.std.proofs.Common.{◌≡◌, ◌≢◌, ℕ, Option, Some, None, List, ◌++◌, take, drop, refl, sym, ◌∙◌, ap, subst}
use Rattle.std.specs.Prelude.{⊤}
use Rattle.std.specs.List.{slice_get}
use Rattle.std.proofs.lemmas.Option.{same_Some}
use Rattle.chain.specs.declared.budget.Budget.{Budget}
use Rattle.mmio_window.specs.declared.stage.Stage.TheVariants.{First}
use Rattle.board.specs.declared.event.Event.{Event}
use Rattle.board.specs.declared.event.EventKind.{EventKind}
use Rattle.board.specs.declared.pause.Pause.{Pause}
use Rattle.board.specs.declared.pause.Turn.{Turn}
use Rattle.board.specs.declared.pause.Turn.TheVariants as turns
use Rattle.board.specs.declared.reply.Reply.{Reply}
use Rattle.board.specs.Image.{Health}
use Rattle.board.specs.Outcome.{Outcome}
use Rattle.board.specs.Pausing as pausing
use Rattle.board.specs.Pausing.{TurnsTo, asked, is_hosts, readied}
use Rattle.board.specs.Slot.{SlotState}
use Rattle.board.specs.Within.{BeginsWithin, GoesOnWithin, IsNextWithin, SameTurn, Seat, TurnWithin}
use Rattle.board.specs.World.{MayGive, World}
use Rattle.board.proofs.Lists.{get_set}
use Rattle.board.proofs.OnePiece.{comes_once, goes_on_once}
use Rattle.board.proofs.OneSeat.{seat_once}
use Rattle.board.proofs.Steps.{IsOwn, always, one_course, own_alone}
use Rattle.output_queue.specs.Waiting.{Waiting}
use Rattle.session.specs.declared.response.Response.{Response}
use Rattle.session.specs.declared.response.Response.TheVariants.{Answered, More, Busy, Idle}
use Rattle.session.specs.Alone.{Begins, GoesOn, OwnCall, own_answers, own_askings, own_call, seat_of}
use Rattle.session.specs.Course.{Happens, SessionStep, IsCalled, IsCourse, IsTaken, paced_world_of}
use Rattle.session.specs.Paced.{ComesOf, IsNextPaced, IsPacedAlone, IsPacedCourse, IsWholeAt, PacedSeat, SeePacedAlike, TakesTurn, paced_seat}
use Rattle.session.specs.Pacing.{Call, GoOn, Handle, paused_by, response_to, slot_in}
use Rattle.session.specs.Pausing.{ComesTo, IsTurn, IsWhole}
use Rattle.session.specs.Session.{SessionState, limit_of, output_of, world_of}
use Rattle.session.specs.Steps.{Answer, Asking, Called, Does, Gave, Takes, Told, Took, after_step, answer_of, asking_of, slot_of}
use Rattle.session.proofs.Alone.{own_event}
use Rattle.session.proofs.PacedAlone.{others_at}
use Rattle.session.proofs.PacedCourses.{by_pause, step_of}
use Rattle.session.proofs.Waiting.{others_wait}

-- guest g sits so in a session of this budget; so much of its output may wait
record Sits (budget : Budget) (limit g : ℕ) (seat : PacedSeat) (session : SessionState) : Type 0 where
  there : slice_get (world_of session).slots g ≡ Some seat.state
  waits : output_of g session ≡ seat.waiting
  paused : slice_get session.paused g ≡ Some seat.paused
  limited : limit_of g session ≡ limit
  budgeted : session.budget ≡ budget

module _ {A : Type 0} (budget : Budget) (limit : ℕ) where
  abbrev Came : PacedSeat → SessionStep A → Type 0
  Came seat step =
      IsOwn Happens after_step (slot_of slot_in) (Sits budget limit) (asking_of own_call) answer_of
      (IsNextPaced budget limit) seat step

  -- a turn of its slot is one of the guest that is alone
  record TurnedTo (Comes : SlotState → Health → Health → SlotState → List ℕ → Turn A → Type 0)
      (Within : ℕ → SlotState → SlotState → List ℕ → List ℕ → Turn A → Type 0) (slot : ℕ) (seat : PacedSeat)
      (response : Response A) (after : SessionState) : Type 0 where
    last : PacedSeat
    turn : TakesTurn Comes (Within limit) seat response last
    sits : Sits budget limit slot last after

  turned : (Comes : SlotState → Health → Health → SlotState → List ℕ → Turn A → Type 0)
      (Within : ℕ → SlotState → SlotState → List ℕ → List ℕ → Turn A → Type 0) (slot : ℕ) (seat : PacedSeat)
      (old : SessionState) (response : Response A) (after : SessionState)
      → Sits budget limit slot seat old → IsTurn Comes Within old slot response after
      → TurnedTo Comes Within slot seat response after
  turned Comes Within slot seat old response after sits t =
      let same : t.taken.state ≡ seat.state =
      same_Some t.taken.state seat.state (sym t.taken.there ∙ sits.there) in
      let there : slice_get (world_of after).slots slot ≡ Some t.taken.after =
      ap (λ (slots : List SlotState). slice_get slots slot) t.taken.slots
      ∙ get_set (world_of old).slots slot seat.state t.taken.after sits.there in
      let within : Within (limit_of slot old) seat.state t.taken.after (output_of slot old) (output_of slot after) t.turn =
      t.within seat.state t.taken.after sits.there there in
      record {
        last = record { state = t.taken.after; waiting = output_of slot after; paused = paused_by t.turn };
        turn = record {
          turn = t.turn;
          output = t.output;
          before = (world_of old).health;
          after = (world_of after).health;
          stood = refl;
          comes = subst (λ (s : SlotState). Comes s (world_of old).health (world_of after).health t.taken.after
              t.output t.turn) same t.taken.comes;
          within = subst (λ (w : List ℕ). Within limit seat.state t.taken.after w (output_of slot after) t.turn)
              sits.waits (subst (λ (n : ℕ). Within n seat.state t.taken.after (output_of slot old)
              (output_of slot after) t.turn) sits.limited within);
          told = t.told;
          behind = t.behind ∙ ap (λ (w : List ℕ). w ++ t.output) sits.waits;
          paused = refl;
        };
        sits = record {
          there = there;
          waits = refl;
          paused = ap (λ (ps : List (Option Pause)). slice_get ps slot) t.paused
              ∙ get_set old.paused slot seat.paused (paused_by t.turn) sits.paused;
          limited = t.limits slot ∙ sits.limited;
          budgeted = t.budget ∙ sits.budgeted;
        };
      }

  -- an event that is answered at once
  whole_at : (old : SessionState) (event : Event A) (response : Response A) (after : SessionState)
      (seat last : PacedSeat) → IsWhole old event response after → Sits budget limit event.slot seat old
      → Sits budget limit event.slot last after → IsWholeAt limit seat event.what response last
  whole_at old event (Answered reply) after seat last h sits left =
      let came = own_event old after event reply seat.state h sits.there in
      let same : came.last ≡ last.state = same_Some came.last last.state (sym came.there ∙ left.there) in
      subst (λ (w : List ℕ). IsNextWithin limit (record { state = seat.state; waiting = seat.waiting }) event.what
      reply (record { state = last.state; waiting = w })) left.waits
      (subst (λ (w : List ℕ). IsNextWithin limit (record { state = seat.state; waiting = w }) event.what reply
      (record { state = last.state; waiting = output_of event.slot after })) sits.waits
      (subst (λ (n : ℕ). IsNextWithin n (seat_of event.slot seat.state old) event.what reply
      (record { state = last.state; waiting = output_of event.slot after })) sits.limited
      (subst (λ (s : SlotState). IsNextWithin (limit_of event.slot old) (seat_of event.slot seat.state old)
      event.what reply (seat_of event.slot s after)) same came.next)))
  whole_at old event More after seat last h sits left = tt
  whole_at old event Busy after seat last h sits left = tt
  whole_at old event Idle after seat last h sits left = tt

  -- a call that changes nothing
  stayed : (old : SessionState) (call : Call A) (response : Response A) (after : SessionState) (seat : PacedSeat)
      → after ≡ old → ComesOf budget limit (own_call call) seat.paused seat response seat
      → Sits budget limit (slot_in call) seat old → Came seat (Called call response after)
  stayed old call response after seat same comes sits = record {
    last = seat;
    next = comes;
    sits = subst (λ (s : SessionState). Sits budget limit (slot_in call) seat s) (sym same) sits;
  }

  abbrev Asked : OwnCall A → PacedSeat → Response A → PacedSeat → Option Pause → Type 0
  Asked call seat response last p = ComesOf budget limit call p seat response last

  own_called : (old : SessionState) (call : Call A) (response : Response A) (after : SessionState) (seat : PacedSeat)
      (p : Option Pause) → seat.paused ≡ p → IsCalled old call response after
      → ComesTo call (Some p) old response after
      → Sits budget limit (slot_in call) seat old → Came seat (Called call response after)
  own_called old (Handle event) response after seat None is h comes sits =
      let came = turned (pausing.Begins event.what budget)
      (λ limit found after. BeginsWithin limit event.what budget found after) event.slot seat old response after sits
      (subst (λ (b : Budget). IsTurn (pausing.Begins event.what b)
      (λ limit found after. BeginsWithin limit event.what b found after) old event.slot response after)
      sits.budgeted comes.turn) in
      record {
        last = came.last;
        next = subst (Asked (Begins event.what) seat response came.last) (sym is)
            (came.turn, whole_at old event response after seat came.last h.whole sits came.sits);
        sits = came.sits;
      }
  own_called old (Handle event) response after seat (Some pause) is h comes sits =
      stayed old (Handle event) response after seat comes.1
      (subst (Asked (Begins event.what) seat response seat) (sym is) (comes.0, refl)) sits
  own_called old (GoOn slot) response after seat None is h comes sits =
      stayed old (GoOn slot) response after seat comes.1
      (subst (Asked GoesOn seat response seat) (sym is) (comes.0, refl)) sits
  own_called old (GoOn slot) response after seat (Some pause) is h comes sits =
      let came = turned (pausing.GoesOn pause budget)
      (λ limit found after. GoesOnWithin limit pause budget found after) slot seat old response after sits
      (subst (λ (b : Budget). IsTurn (pausing.GoesOn pause b)
      (λ limit found after. GoesOnWithin limit pause b found after) old slot response after) sits.budgeted comes) in
      record {
        last = came.last;
        next = subst (Asked GoesOn seat response came.last) (sym is) came.turn;
        sits = came.sits;
      }

  own_step : (old : SessionState) (step : SessionStep A) (seat : PacedSeat) → Happens old step → ⊤
      → Sits budget limit (slot_of slot_in step) seat old → Came seat step
  own_step old (Called call response after) seat h fair sits =
      own_called old call response after seat seat.paused refl h
      (subst (λ (p : Option (Option Pause)). ComesTo call p old response after) sits.paused
      (by_pause old call response after h)) sits
  own_step old (Took slot room bytes after) seat h fair sits = record {
    last = record seat { waiting = drop room seat.waiting };
    next = (h.first ∙ ap (λ (w : List ℕ). take room w) sits.waits, refl);
    sits = record {
      there = ap (λ (w : World). slice_get w.slots slot) h.world ∙ sits.there;
      waits = h.left ∙ ap (λ (w : List ℕ). drop room w) sits.waits;
      paused = ap (λ (ps : List (Option Pause)). slice_get ps slot) h.paused ∙ sits.paused;
      limited = h.limits slot ∙ sits.limited;
      budgeted = h.budget ∙ sits.budgeted;
    };
  }

  others_step : (g : ℕ) (old : SessionState) (step : SessionStep A) (seat : PacedSeat) → slot_of slot_in step ≢ g
      → Happens old step → Sits budget limit g seat old → Sits budget limit g seat (after_step step)
  others_step g old (Called call response after) seat other h sits =
      let s = step_of old call response after (by_pause old call response after h) in
      let kept = others_at g old.budget call (slice_get old.paused (slot_in call))
      (paced_world_of old) response
      s.output s.block s.console (paced_world_of after) other s.comes in
      record {
        there = kept.slot ∙ sits.there;
        waits = ap (λ (w : Waiting). w.bytes)
            (others_wait g (slot_in call) old.outputs after.outputs s.outputs other) ∙ sits.waits;
        paused = kept.paused ∙ sits.paused;
        limited = s.limits g ∙ sits.limited;
        budgeted = s.budget ∙ sits.budgeted;
      }
  others_step g old (Took slot room bytes after) seat other h sits = record {
    there = ap (λ (w : World). slice_get w.slots g) h.world ∙ sits.there;
    waits = ap (λ (w : Waiting). w.bytes) (others_wait g slot old.outputs after.outputs h.others other)
        ∙ sits.waits;
    paused = ap (λ (ps : List (Option Pause)). slice_get ps g) h.paused ∙ sits.paused;
    limited = h.limits g ∙ sits.limited;
    budgeted = h.budget ∙ sits.budgeted;
  }

pub paced_alone : {A : Type 0} (g : ℕ) (old : SessionState) (steps : List (SessionStep A)) (new : SessionState)
    (state : SlotState) (paused : Option Pause) → IsCourse old steps new
    → slice_get (world_of old).slots g ≡ Some state → slice_get old.paused g ≡ Some paused
    → IsPacedAlone g state paused old steps new
paced_alone {A} g old steps new state paused course here pauses =
    let limit = limit_of g old in
    let is = own_alone Happens after_step (slot_of slot_in) (Sits old.budget limit) (asking_of own_call) answer_of
    (IsNextPaced old.budget limit) (λ k was step. ⊤) (own_step old.budget limit) (others_step old.budget limit) g old
    steps new (paced_seat g state paused old) course (always Happens after_step old steps)
    (record { there = here; waits = refl; paused = pauses; limited = refl; budgeted = refl }) in
    record {
      last = is.last.state;
      left = is.last.paused;
      own = subst (λ (w : List ℕ). IsPacedCourse old.budget limit (paced_seat g state paused old)
          (own_askings g steps) (own_answers g steps)
          (record { state = is.last.state; waiting = w; paused = is.last.paused })) (sym is.sits.waits) is.own;
      state_after = is.sits.there;
      paused_after = is.sits.paused;
    }

-- ---- and so its own calls decide all that it sees

same_paced : (a b : SlotState) (l k : List ℕ) (p q : Option Pause) → a ≡ b → l ≡ k → p ≡ q
    → ◌≡◌ {A = PacedSeat} (record { state = a; waiting = l; paused = p })
    (record { state = b; waiting = k; paused = q })
same_paced a b l k p q x y z = rw (x, y, z) refl

module _ {A : Type 0} (budget : Budget) (limit : ℕ) where
  -- what two turns agree in decides what is told and left
  turn_told : (turn turn' : Turn A) (one other : PacedSeat) (p q : Response A)
      → SameTurn one.state other.state one.waiting other.waiting turn turn'
      → p ≡ response_to turn → q ≡ response_to turn' → one.paused ≡ paused_by turn → other.paused ≡ paused_by turn'
      → (p ≡ q) × (one ≡ other)
  turn_told turn turn' one other p q same told told' left left' = (
    told ∙ ap (λ (t : Turn A). response_to t) same.answer ∙ sym told',
    same_paced one.state other.state one.waiting other.waiting one.paused other.paused same.state same.waiting
        (left ∙ ap (λ (t : Turn A). paused_by t) same.answer ∙ sym left'),
  )

  -- an event has one outcome, by the service that it asks for
  begins_once : (found : Option Pause) (May May' : Outcome A → Type 0) (what : EventKind A)
      (old one other : PacedSeat) (before after before' after' : Health) (output output' : List ℕ) (turn turn' : Turn A)
      → after.failures ≡ before.failures → after'.failures ≡ before'.failures
      → one.waiting ≡ old.waiting ++ output → other.waiting ≡ old.waiting ++ output'
      → TurnsTo May found what budget old.state before after one.state output turn
      → TurnsTo May' found what budget old.state before' after' other.state output' turn'
      → TurnWithin limit found what budget old.state one.state old.waiting one.waiting turn
      → TurnWithin limit found what budget old.state other.state old.waiting other.waiting turn'
      → IsWholeAt limit old what (response_to turn) one → IsWholeAt limit old what (response_to turn') other
      → SameTurn one.state other.state one.waiting other.waiting turn turn'
  begins_once (Some pause) May May' what old one other before after before' after' output output' turn turn' stood stood'
      behind behind' a b v w x y =
      comes_once limit pause First budget (readied what old.state) one.state other.state before after before' after'
      old.waiting one.waiting other.waiting output output' turn turn' stood stood' behind behind' a b v w
  begins_once None May May' what old one other before after before' after' output output' (turns.Answered p) (turns.Answered q) stood
      stood' behind behind' a b v w x y =
      let same = seat_once limit (record { state = old.state; waiting = old.waiting })
      (record { state = one.state; waiting = one.waiting }) (record { state = other.state; waiting = other.waiting })
      what p q x y in
      record {
        state = ap (λ (s : Seat). s.state) same.1;
        waiting = ap (λ (s : Seat). s.waiting) same.1;
        answer = ap (λ (r : Reply A). turns.Answered r) same.0;
      }
  begins_once None May May' what old one other before after before' after' output output' (turns.Answered p) (turns.More next) stood
      stood' behind behind' a b v w x y = absurd b
  begins_once None May May' what old one other before after before' after' output output' (turns.More next) turn' stood stood'
      behind behind' a b v w x y = absurd a

  called_once : (call : OwnCall A) (paused : Option Pause) (old one other : PacedSeat) (p q : Response A)
      → ComesOf budget limit call paused old p one → ComesOf budget limit call paused old q other
      → (p ≡ q) × (one ≡ other)
  called_once (Begins what) None old one other p q x y =
      let a = x.0 in
      let b = y.0 in
      turn_told a.turn b.turn one other p q
      (begins_once (asked what old.state) (MayGive old.state what a.before a.after)
      (MayGive old.state what b.before b.after) what old one other a.before a.after b.before b.after a.output b.output
      a.turn b.turn a.stood b.stood a.behind b.behind a.comes b.comes a.within b.within
      (subst (λ (r : Response A). IsWholeAt limit old what r one) a.told x.1)
      (subst (λ (r : Response A). IsWholeAt limit old what r other) b.told y.1)) a.told b.told a.paused b.paused
  called_once (Begins what) (Some pause) old one other p q x y = (x.0 ∙ sym y.0, x.1 ∙ sym y.1)
  called_once GoesOn None old one other p q x y = (x.0 ∙ sym y.0, x.1 ∙ sym y.1)
  called_once GoesOn (Some pause) old one other p q a b =
      turn_told a.turn b.turn one other p q
      (goes_on_once (is_hosts old.state.host pause.service) limit pause budget old.state one.state other.state a.before
      a.after b.before b.after old.waiting one.waiting other.waiting a.output b.output a.turn b.turn a.stood b.stood
      a.behind b.behind a.comes b.comes a.within b.within) a.told b.told a.paused b.paused

  asked_once : (old one other : PacedSeat) (asking : Asking (OwnCall A)) (p q : Answer (Response A))
      → IsNextPaced budget limit old asking p one → IsNextPaced budget limit old asking q other
      → (p ≡ q) × (one ≡ other)
  asked_once old one other (Does call) (Told p) (Told q) x y =
      let same = called_once call old.paused old one other p q x y in
      (ap (λ (r : Response A). Told r) same.0, same.1)
  asked_once old one other (Does call) (Told p) (Gave q) x y = absurd y
  asked_once old one other (Does call) (Gave p) q x y = absurd x
  asked_once old one other (Takes room) (Gave p) (Gave q) x y =
      let gave : List ℕ → Answer (Response A) = λ b. Gave b in
      (ap gave (x.0 ∙ sym y.0), x.1 ∙ sym y.1)
  asked_once old one other (Takes room) (Gave p) (Told q) x y = absurd y
  asked_once old one other (Takes room) (Told p) q x y = absurd x

  course_once : (old : PacedSeat) (askings : List (Asking (OwnCall A))) (one other : List (Answer (Response A)))
      (s t : PacedSeat) → IsPacedCourse budget limit old askings one s → IsPacedCourse budget limit old askings other t
      → (one ≡ other) × (s ≡ t)
  course_once old askings one other s t x y =
      one_course (IsNextPaced budget limit) asked_once old askings one other s t x y

pub paced_course_once : {A : Type 0} (budget : Budget) (limit : ℕ) (old one other : PacedSeat)
    (askings : List (Asking (OwnCall A))) (answers answers' : List (Answer (Response A)))
    → IsPacedCourse budget limit old askings answers one → IsPacedCourse budget limit old askings answers' other
    → (answers ≡ answers') × (one ≡ other)
paced_course_once budget limit old one other askings answers answers' x y =
    course_once budget limit old askings answers answers' one other x y

-- Two guests of sessions of one budget, as the same slot with the same output and the same paused.
pub see_paced_alike : {A : Type 0} (g h : ℕ) (old new other last : SessionState) (steps more : List (SessionStep A))
    (state : SlotState) (paused : Option Pause) → IsCourse old steps new → IsCourse other more last
    → slice_get (world_of old).slots g ≡ Some state → slice_get (world_of other).slots h ≡ Some state
    → slice_get old.paused g ≡ Some paused → slice_get other.paused h ≡ Some paused
    → output_of h other ≡ output_of g old → limit_of h other ≡ limit_of g old → other.budget ≡ old.budget
    → own_askings h more ≡ own_askings g steps → SeePacedAlike g steps new h more last
see_paced_alike {A} g h old new other last steps more state paused x y here there pauses waits out lim same askings =
    let a = paced_alone g old steps new state paused x here pauses in
    let b = paced_alone h other more last state paused y there waits in
    let end = paced_seat h b.last b.left last in
    let own : IsPacedCourse old.budget (limit_of g old) (paced_seat g state paused old) (own_askings g steps)
    (own_answers h more) end =
    subst (λ (c : List (Asking (OwnCall A))). IsPacedCourse old.budget (limit_of g old) (paced_seat g state paused old) c
    (own_answers h more) end) askings
    (subst (λ (w : List ℕ). IsPacedCourse old.budget (limit_of g old)
    (record { state = state; waiting = w; paused = paused }) (own_askings h more) (own_answers h more) end) out
    (subst (λ (n : ℕ). IsPacedCourse old.budget n (paced_seat h state paused other) (own_askings h more)
    (own_answers h more) end) lim
    (subst (λ (k : Budget). IsPacedCourse k (limit_of h other) (paced_seat h state paused other) (own_askings h more)
    (own_answers h more) end) same b.own))) in
    let one = paced_course_once old.budget (limit_of g old) (paced_seat g state paused old)
    (paced_seat g a.last a.left new) end (own_askings g steps) (own_answers g steps) (own_answers h more) a.own own in
    record {
      seen = record {
        answers = one.0;
        waiting = ap (λ (s : PacedSeat). s.waiting) one.1;
        state = a.state_after ∙ (ap (λ (s : PacedSeat). Some s.state) one.1 ∙ sym b.state_after);
      };
      paused = a.paused_after ∙ (ap (λ (s : PacedSeat). Some s.paused) one.1 ∙ sym b.paused_after);
    }
