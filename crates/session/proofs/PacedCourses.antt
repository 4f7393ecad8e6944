-- A guest of a session that had room is answered what it would be answered alone, however its services pause.
use Rattle.std.proofs.Common.{◌≡◌, ◌≢◌, ◌⊎◌, inl, inr, ℕ, eqb, true, false, List, [], ◌∷◌, ◌++◌, map, Option, Some, None, refl, sym, ◌∙◌, ap, subst, drop, take-append-drop, append_assoc, append-nil}
use Rattle.std.specs.Prelude.{slice_set}
use Rattle.std.specs.List.{slice_get}
use Rattle.std.proofs.lemmas.Bool.{cases_eq}
use Rattle.chain.specs.declared.budget.Budget.{Budget}
use Rattle.board.specs.declared.pause.Pause.{Pause}
use Rattle.board.specs.declared.pause.Turn.{Turn}
use Rattle.board.specs.declared.pause.Turn.TheVariants as turn
use Rattle.board.specs.declared.reply.Reply.{Reply}
use Rattle.board.specs.declared.reply.Record.{Record}
use Rattle.board.specs.declared.reply.Reply.TheVariants.{NoMemory}
use Rattle.board.specs.Image.{Health}
use Rattle.board.specs.Machine.{RunsOnItsOwn}
use Rattle.board.specs.Pausing.{HasLimit}
use Rattle.board.specs.Slot.{SlotState}
use Rattle.board.specs.World.{World}
use Rattle.output_queue.specs.Waiting.{Waiting}
use Rattle.session.specs.declared.response.Response.{Response}
use Rattle.session.specs.declared.response.Response.TheVariants.{Answered, More, Busy, Idle}
use Rattle.session.specs.Line.{IsIdle, record_at}
use Rattle.session.specs.Pacing.{Call, Handle, GoOn, Move, slot_in}
use Rattle.session.specs.Pacing as pacing
use Rattle.board.proofs.Lists.{get_set}
use Rattle.board.proofs.Steps.{Passes, alone, each_along, kept_along}
use Rattle.session.proofs.PacedAlone.{Begun, Ended, IsStalled, OwnMove, Sits, Stayed, WentOn, events_from, events_of_others, others_at, others_move, out_of, own_move, run_as}
use Rattle.session.specs.Course.{SessionStep, HadRoom, Happens, IsCalled, IsCourse, IsTaken, NeverPauses, RunsAlone, ended_by, events_begun, output_taken, paced_world_of, put_out, replies_ended}
use Rattle.session.specs.Pausing.{ComesTo, IsCall, IsTurn}
use Rattle.session.specs.Session.{KeepsOtherOutputs, SessionState, limit_of, output_of, world_of}
use Rattle.session.specs.Steps.{Called, IsAnsweredSo, Took, after_step, slot_of}
use Rattle.session.proofs.Waiting.{others_wait}

-- ---- a call as a move

-- What a call comes to on the board, and what it puts out.
pub record Stepped {A : Type 0} (p : Option (Option Pause)) (old : SessionState) (call : Call A)
    (response : Response A) (after : SessionState) : Type 0 where
  pub output : List ℕ
  pub block : ℕ
  pub console : ℕ
  pub comes : pacing.ComesTo old.budget call p (paced_world_of old) response output block console
      (paced_world_of after)
  pub behind : output_of (slot_in call) after ≡ output_of (slot_in call) old ++ output
  pub outputs : KeepsOtherOutputs (slot_in call) old.outputs after.outputs
  pub budget : after.budget ≡ old.budget
  pub limits : (slot : ℕ) → limit_of slot after ≡ limit_of slot old

unchanged : {A : Type 0} (p : Option (Option Pause)) (old : SessionState) (call : Call A)
    (response : Response A) (after : SessionState) → after ≡ old
    → pacing.ComesTo old.budget call p (paced_world_of old) response [] 0 0 (paced_world_of after)
    → Stepped p old call response after
unchanged p old call response after same comes = record {
  output = [];
  block = 0;
  console = 0;
  comes = comes;
  behind = ap (output_of (slot_in call)) same ∙ sym (append-nil (output_of (slot_in call) old));
  outputs = λ other differ. ap (λ (s : SessionState). slice_get s.outputs other) same;
  budget = ap (λ (s : SessionState). s.budget) same;
  limits = λ slot. ap (limit_of slot) same;
}

-- what a turn of its slot comes to is the move of the board
turned : {A : Type 0} {Comes : SlotState → Health → Health → SlotState → List ℕ → Turn A → Type 0}
    {Within : ℕ → SlotState → SlotState → List ℕ → List ℕ → Turn A → Type 0}
    (p : Option (Option Pause)) (old : SessionState) (call : Call A) (response : Response A)
    (after : SessionState) (t : IsTurn Comes Within old (slot_in call) response after)
    → (pacing.IsTurn Comes (paced_world_of old) (slot_in call) response t.output t.block t.console
    (paced_world_of after) → pacing.ComesTo old.budget call p (paced_world_of old) response t.output
    t.block t.console (paced_world_of after))
    → Stepped p old call response after
turned p old call response after t comes = record {
  output = t.output;
  block = t.block;
  console = t.console;
  comes = comes (record { turn = t.turn; taken = t.taken; told = t.told; paused = t.paused });
  behind = t.behind;
  outputs = t.outputs;
  budget = t.budget;
  limits = t.limits;
}

stepped : {A : Type 0} (p : Option (Option Pause)) (old : SessionState) (call : Call A)
    (response : Response A) (after : SessionState) → ComesTo call p old response after
    → Stepped p old call response after
stepped (Some None) old (Handle event) response after h =
    turned (Some None) old (Handle event) response after h.turn (λ move. move)
stepped (Some (Some pause)) old (GoOn slot) response after h =
    turned (Some (Some pause)) old (GoOn slot) response after h (λ move. move)
stepped p old call response after h =
    unchanged p old call response after h.1 (h.0, record { same = ap paced_world_of h.1; silent = refl })

-- what it comes to by what is paused
pub by_pause : {A : Type 0} (old : SessionState) (call : Call A) (response : Response A)
    (after : SessionState) → IsCalled old call response after → IsCall old call response after
by_pause old (Handle event) response after h = h.turn
by_pause old (GoOn slot) response after h = h

pub step_of : {A : Type 0} (old : SessionState) (call : Call A) (response : Response A) (after : SessionState)
    → IsCall old call response after → Stepped (slice_get old.paused (slot_in call)) old call response after
step_of old call response after h = stepped (slice_get old.paused (slot_in call)) old call response after h

abbrev move_of : {A : Type 0} (old : SessionState) (call : Call A) (response : Response A)
    (after : SessionState) → IsCall old call response after → Move A
move_of old call response after h =
    let s = step_of old call response after h in
    record {
      call = call;
      response = response;
      output = s.output;
      block_irq = s.block;
      console_irq = s.console;
      after = paced_world_of after;
    }

-- what was taken stood before what is left
taken_first : (slot room : ℕ) (old after : SessionState) (bytes : List ℕ)
    → IsTaken old slot room bytes after → output_of slot old ≡ bytes ++ output_of slot after
taken_first slot room old after bytes h =
    sym (take-append-drop room (output_of slot old))
    ∙ (ap (λ (l : List ℕ). l ++ drop room (output_of slot old)) (sym h.first)
    ∙ ap (λ (l : List ℕ). bytes ++ l) (sym h.left))

-- ---- how a guest sits in a session

-- its state before the event that it waits for, if it waits for one, and what waits of its output
record Place (A : Type 0) : Type 0 where
  state : SlotState
  begun : Option (Begun A)
  waiting : List ℕ

record SitsIn {A : Type 0} (g : ℕ) (place : Place A) (session : SessionState) : Type 0 where
  seat : Sits g place.state place.begun (paced_world_of session)
  waits : output_of g session ≡ place.waiting

-- What comes of steps for a guest that sits so before them: its records, and what is put out from here on.
record Comes {A : Type 0} (new : SessionState) (g : ℕ) (place : Place A)
    (steps : List (SessionStep A)) : Type 0 where
  records : List (Record A)
  later : List ℕ
  last : SlotState
  own : RunsOnItsOwn g place.state (events_from place.begun (events_begun g steps)) records last
  replies : replies_ended g steps ≡ map (λ written. written.reply) records
  puts : put_out records ≡ out_of place.begun ++ later
  output : place.waiting ++ later ≡ output_taken g steps ++ output_of g new
  state_after : slice_get (world_of new).slots g ≡ Some last

stalled_ended : {A : Type 0} (response : Response A) (rest : List (Reply A)) → IsStalled response
    → ended_by response rest ≡ rest
stalled_ended (Answered reply) rest stalled = absurd stalled
stalled_ended More rest stalled = absurd stalled
stalled_ended Busy rest stalled = refl
stalled_ended Idle rest stalled = refl

behind_none : (before after : List ℕ) (output : List ℕ) → after ≡ before ++ output → output ≡ []
    → after ≡ before
behind_none before after output is none = is ∙ (ap (λ (l : List ℕ). before ++ l) none ∙ append-nil before)

-- where the board and what is paused of it stay, the guest sits as it did
sits_at : {A : Type 0} (g : ℕ) (state : SlotState) (begun : Option (Begun A)) (old new : SessionState)
    → world_of new ≡ world_of old → new.paused ≡ old.paused → Sits g state begun (paced_world_of old)
    → Sits g state begun (paced_world_of new)
sits_at g state begun old new world paused sits =
    others_move g state begun (paced_world_of old) (paced_world_of new)
    (record {
      slot = ap (λ (w : World). slice_get w.slots g) world;
      paused = ap (λ (ps : List (Option Pause)). slice_get ps g) paused;
    }) sits

module _ {A : Type 0} (new : SessionState) where
  abbrev Passing : ℕ → Place A → SessionStep A → Type 0
  Passing g place step = Passes Happens after_step (slot_of slot_in) SitsIn (Comes new) g place step

  -- steps of which the guest sees nothing come to what those behind them do
  unseen : (g : ℕ) (place : Place A) (steps all : List (SessionStep A))
      → events_begun g all ≡ events_begun g steps → replies_ended g all ≡ replies_ended g steps
      → output_taken g all ≡ output_taken g steps → Comes new g place steps → Comes new g place all
  unseen g place steps all events replies taken c = record {
    records = c.records;
    later = c.later;
    last = c.last;
    own = run_as g place.state c.last _ _ c.records c.records (ap (events_from place.begun) events) refl
        c.own;
    replies = replies ∙ c.replies;
    puts = c.puts;
    output = c.output ∙ ap (λ (l : List ℕ). l ++ output_of g new) (sym taken);
    state_after = c.state_after;
  }

  -- a call of its own
  called : (old : SessionState) (call : Call A) (response : Response A) (after : SessionState)
      (h : IsCall old call response after) (place : Place A) → eqb (slot_in call) (slot_in call) ≡ true
      → output_of (slot_in call) old ≡ place.waiting
      → OwnMove (slot_in call) place.state place.begun call response (move_of old call response after h)
      → Passing (slot_in call) place (Called call response after)
  called old call response after h place test waits (Stayed stalled silent events sits) = record {
    next = place;
    sits = record {
      seat = sits;
      waits = behind_none (output_of (slot_in call) old) (output_of (slot_in call) after)
          (step_of old call response after h).output (step_of old call response after h).behind silent
          ∙ waits;
    };
    comes = λ steps.
        unseen (slot_in call) place steps (Called call response after ∷ steps)
        (events (events_begun (slot_in call) steps))
        (rw test (stalled_ended response (replies_ended (slot_in call) steps) stalled)) refl;
  }
  called old call response after h place test waits (WentOn event serves said sits) =
      let s = step_of old call response after h in
      record {
        next = record {
          state = place.state;
          begun = Some (record { what = event.what; out = event.out ++ s.output });
          waiting = place.waiting ++ s.output;
        };
        sits = record { seat = sits; waits = s.behind ∙ ap (λ (l : List ℕ). l ++ s.output) waits };
        comes = λ steps c. record {
          records = c.records;
          later = s.output ++ c.later;
          last = c.last;
          own = run_as (slot_in call) place.state c.last _ _ c.records c.records
              (serves.events (events_begun (slot_in call) steps)) refl c.own;
          replies = rw (test, said) c.replies;
          puts = rw (serves.out) (c.puts ∙ append_assoc event.out s.output c.later);
          output = sym (append_assoc place.waiting s.output c.later) ∙ c.output;
          state_after = c.state_after;
        };
      }
  called old call response after h place test waits (Ended event serves reply said last told sits) =
      let s = step_of old call response after h in
      let written = record_at (slot_in call) event.out (move_of old call response after h) reply in
      record {
        next = record { state = last; begun = None; waiting = place.waiting ++ s.output };
        sits = record { seat = sits; waits = s.behind ∙ ap (λ (l : List ℕ). l ++ s.output) waits };
        comes = λ steps c. record {
          records = written ∷ c.records;
          later = s.output ++ c.later;
          last = c.last;
          own = run_as (slot_in call) place.state c.last (event.what ∷ events_begun (slot_in call) steps) _
              (written ∷ c.records) _ (serves.events (events_begun (slot_in call) steps)) refl
              (last, told, c.own);
          replies = rw (test, said) (ap (λ (rs : List (Reply A)). reply ∷ rs) c.replies);
          puts = rw (serves.out) (ap (λ (l : List ℕ). (event.out ++ s.output) ++ l) c.puts
              ∙ append_assoc event.out s.output c.later);
          output = sym (append_assoc place.waiting s.output c.later) ∙ c.output;
          state_after = c.state_after;
        };
      }

  own_step : (old : SessionState) (step : SessionStep A) (place : Place A)
      → eqb (slot_of slot_in step) (slot_of slot_in step) ≡ true → Happens old step
      → IsAnsweredSo slot_in (λ response. response ≢ Answered NoMemory) (slot_of slot_in step) step
      → SitsIn (slot_of slot_in step) place old → Passing (slot_of slot_in step) place step
  own_step old (Called call response after) place test h had sits =
      let is = by_pause old call response after h in
      called old call response after is place test sits.waits
      (own_move old.budget (paced_world_of old) (move_of old call response after is) place.state
      place.begun test
      (step_of old call response after is).comes (record { memory = had; image = λ mine. refl }) sits.seat)
  own_step old (Took slot room bytes after) place test h had sits = record {
    next = record { state = place.state; begun = place.begun; waiting = output_of slot after };
    sits = record {
      seat = sits_at slot place.state place.begun old after h.world h.paused sits.seat;
      waits = refl;
    };
    comes = λ steps c. record {
      records = c.records;
      later = c.later;
      last = c.last;
      own = c.own;
      replies = c.replies;
      puts = c.puts;
      output = rw test (ap (λ (l : List ℕ). l ++ c.later)
          (sym sits.waits ∙ taken_first slot room old after bytes h)
          ∙ (append_assoc bytes (output_of slot after) c.later
          ∙ (ap (λ (l : List ℕ). bytes ++ l) c.output
          ∙ sym (append_assoc bytes (output_taken slot steps) (output_of slot new)))));
      state_after = c.state_after;
    };
  }

  others_step : (g : ℕ) (old : SessionState) (step : SessionStep A) (place : Place A)
      → eqb (slot_of slot_in step) g ≡ false → slot_of slot_in step ≢ g → Happens old step
      → SitsIn g place old → Passing g place step
  others_step g old (Called call response after) place test other h sits =
      let s = step_of old call response after (by_pause old call response after h) in
      record {
        next = place;
        sits = record {
          seat = others_move g place.state place.begun (paced_world_of old) (paced_world_of after)
              (others_at g old.budget call (slice_get old.paused (slot_in call)) (paced_world_of old) response
              s.output s.block s.console (paced_world_of after) other s.comes) sits.seat;
          waits = ap (λ (w : Waiting). w.bytes)
              (others_wait g (slot_in call) old.outputs after.outputs s.outputs other) ∙ sits.waits;
        };
        comes = λ steps.
            unseen g place steps (Called call response after ∷ steps)
            (events_of_others g call response (events_begun g steps) test) (rw test refl) refl;
      }
  others_step g old (Took slot room bytes after) place test other h sits = record {
    next = place;
    sits = record {
      seat = sits_at g place.state place.begun old after h.world h.paused sits.seat;
      waits = ap (λ (w : Waiting). w.bytes) (others_wait g slot old.outputs after.outputs h.others other)
          ∙ sits.waits;
    };
    comes = λ steps. unseen g place steps (Took slot room bytes after ∷ steps) refl refl (rw test refl);
  }

  ends : (g : ℕ) → IsIdle g (paced_world_of new) → (place : Place A) (begun : Option (Begun A))
      → place.begun ≡ begun → Sits g place.state begun (paced_world_of new)
      → output_of g new ≡ place.waiting → Comes new g place []
  ends g idle place None is sits waits = record {
    records = [];
    later = [];
    last = place.state;
    own = rw is refl;
    replies = refl;
    puts = rw is refl;
    output = append-nil place.waiting ∙ sym waits;
    state_after = sits.there;
  }
  ends g idle place (Some event) is sits waits =
      let no : ◌≡◌ {A = Option (Option Pause)} (Some None) (Some (Some sits.pause)) = sym idle ∙ sits.paused
      in
      absurd (cc)

-- ---- the law

pub runs_alone : {A : Type 0} (g : ℕ) (old new : SessionState) (steps : List (SessionStep A))
    (state : SlotState) → IsCourse old steps new → HadRoom g steps
    → IsIdle g (paced_world_of old) → IsIdle g (paced_world_of new)
    → slice_get (world_of old).slots g ≡ Some state → RunsAlone g state old steps new
runs_alone {A} g old new steps state course had starts idle here =
    let IsFair : ℕ → SessionStep A → Type 0 = λ k step.
    IsAnsweredSo slot_in (λ (response : Response A). response ≢ Answered NoMemory) k step in
    let c = alone Happens after_step (slot_of slot_in) SitsIn (Comes new) (λ k was step. IsFair k step)
    (record { own = own_step new; others = others_step new }) g new
    (λ place sits. ends new g idle place place.begun refl sits.seat sits.waits) old steps
    (record { state = state; begun = None; waiting = output_of g old }) course
    (each_along Happens after_step (IsFair g) old steps had)
    (record { seat = record { there = here; idle = starts }; waits = refl }) in
    record {
      records = c.records;
      last = c.last;
      own = c.own;
      replies = c.replies;
      output = ap (λ (l : List ℕ). output_of g old ++ l) c.puts ∙ c.output;
      state_after = c.state_after;
    }

-- ---- without a budget nothing is paused

-- a slot of which nothing is paused, and whose event is answered
answered_idle : {A : Type 0} (g : ℕ) (old new : List (Option Pause)) (response : Response A) (t : Turn A)
    → slice_get old g ≡ Some None → response ≡ pacing.response_to t → (response ≡ More → ⊥)
    → new ≡ slice_set old g (pacing.paused_by t) → slice_get new g ≡ Some None
answered_idle g old new response (turn.Answered reply) idle told never is =
    ap (λ (ps : List (Option Pause)). slice_get ps g) is ∙ get_set old g None None idle
answered_idle g old new response (turn.More pause) idle told never is = absurd (never told)

own_idle : {A : Type 0} (call : Call A) (old : SessionState) (response : Response A) (after : SessionState)
    → (HasLimit old.budget → ⊥) → slice_get old.paused (slot_in call) ≡ Some None
    → ComesTo call (Some None) old response after → slice_get after.paused (slot_in call) ≡ Some None
own_idle (Handle event) old response after unlimited idle h =
    answered_idle event.slot old.paused after.paused response h.turn.turn idle h.turn.told
    (λ is. unlimited (h.limited is)) h.turn.paused
own_idle (GoOn slot) old response after unlimited idle h =
    ap (λ (s : SessionState). slice_get s.paused slot) h.1 ∙ idle

own_goes_on : {A : Type 0} (call : Call A) (old : SessionState) (response : Response A) (after : SessionState)
    → (HasLimit old.budget → ⊥) → ComesTo call (Some None) old response after → response ≢ More
own_goes_on (Handle event) old response after unlimited h is = unlimited (h.limited is)
own_goes_on (GoOn slot) old response after unlimited h is = let idle = h.0 in cc

called_idle : {A : Type 0} (g : ℕ) (call : Call A) (old : SessionState) (response : Response A)
    (after : SessionState) → (slot_in call ≡ g) ⊎ (slot_in call ≢ g) → (HasLimit old.budget → ⊥)
    → slice_get old.paused g ≡ Some None → IsCall old call response after
    → slice_get after.paused g ≡ Some None
called_idle g call old response after (inl same) unlimited idle h =
    let own : slice_get old.paused (slot_in call) ≡ Some None =
    ap (λ (k : ℕ). slice_get old.paused k) same ∙ idle in
    subst (λ (k : ℕ). slice_get after.paused k ≡ Some None) same
    (own_idle call old response after unlimited own
    (subst (λ (p : Option (Option Pause)). ComesTo call p old response after) own h))
called_idle g call old response after (inr other) unlimited idle h =
    let s = step_of old call response after h in
    (others_at g old.budget call (slice_get old.paused (slot_in call)) (paced_world_of old) response s.output
    s.block s.console (paced_world_of after) other s.comes).paused ∙ idle

-- nothing of guest g is paused, and there is no budget
record StaysIdle (g : ℕ) (session : SessionState) : Type 0 where
  unlimited : HasLimit session.budget → ⊥
  idle : IsIdle g (paced_world_of session)

keeps_idle : {A : Type 0} (g : ℕ) (old : SessionState) (step : SessionStep A) → Happens old step
    → StaysIdle g old
    → IsAnsweredSo slot_in (λ (response : Response A). response ≢ More) g step × StaysIdle g (after_step step)
keeps_idle g old (Called call response after) h stays =
    let is = by_pause old call response after h in
    let s = step_of old call response after is in (
      λ mine.
          own_goes_on call old response after stays.unlimited
          (subst (λ (p : Option (Option Pause)). ComesTo call p old response after)
          (ap (λ (k : ℕ). slice_get old.paused k) mine ∙ stays.idle) is),
      record {
        unlimited = λ limit. stays.unlimited (subst (λ (b : Budget). HasLimit b) s.budget limit);
        idle =
            called_idle g call old response after (cases_eq (slot_in call) g) stays.unlimited stays.idle is;
      },
    )
keeps_idle g old (Took slot room bytes after) h stays = (
  tt,
  record {
    unlimited = λ limit. stays.unlimited (subst (λ (b : Budget). HasLimit b) h.budget limit);
    idle = ap (λ (ps : List (Option Pause)). slice_get ps g) h.paused ∙ stays.idle;
  },
)

stays_idle : {A : Type 0} (g : ℕ) (old new : SessionState) (steps : List (SessionStep A))
    → IsCourse old steps new → (HasLimit old.budget → ⊥) → IsIdle g (paced_world_of old)
    → NeverPauses g steps × StaysIdle g new
stays_idle {A} g old new steps course unlimited idle =
    kept_along Happens after_step (StaysIdle g)
    (IsAnsweredSo slot_in (λ (response : Response A). response ≢ More) g) (keeps_idle g) old steps new course
    (record { unlimited = unlimited; idle = idle })

pub never_pauses : {A : Type 0} (g : ℕ) (old new : SessionState) (steps : List (SessionStep A))
    → IsCourse old steps new → (HasLimit old.budget → ⊥) → IsIdle g (paced_world_of old) → NeverPauses g steps
never_pauses g old new steps course unlimited idle = (stays_idle g old new steps course unlimited idle).0

pub runs_alone_unlimited : {A : Type 0} (g : ℕ) (old new : SessionState) (steps : List (SessionStep A))
    (state : SlotState) → IsCourse old steps new → HadRoom g steps → (HasLimit old.budget → ⊥)
    → IsIdle g (paced_world_of old) → slice_get (world_of old).slots g ≡ Some state
    → RunsAlone g state old steps new
runs_alone_unlimited g old new steps state course had unlimited starts here =
    runs_alone g old new steps state course had starts
    (stays_idle g old new steps course unlimited starts).1.idle here
