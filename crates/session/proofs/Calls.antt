-- A step of a session, as a call where nothing of its slot is paused.
use Rattle.std.proofs.Common.{◌≡◌, ℕ, zero, suc, ◌<◌, ◌≤◌, Bool, true, false, List, [], ◌∷◌, length, map, Option, Some, None, refl, sym, ◌∙◌, ap, arith}
use Rattle.std.specs.Prelude.{if◌then◌else◌}
use Rattle.std.specs.List.{slice_get}
use Rattle.std.specs.Option.{option_and_then}
use Rattle.std.proofs.lemmas.Option.{same_Some, slice_get_within, slice_get_cases}
use Rattle.board.specs.declared.event.Event.{Event}
use Rattle.board.specs.declared.pause.Pause.{Pause}
use Rattle.board.specs.declared.pause.Turn.TheVariants as turn
use Rattle.board.specs.declared.reply.Reply.{Reply}
use Rattle.board.specs.declared.reply.Reply.TheVariants.{BadSlot, BadRange}
use Rattle.board.specs.Pausing.{asked}
use Rattle.board.specs.Slot.{SlotState, BoardSlot, state_of}
use Rattle.session.specs.declared.response.Response.TheVariants.{Answered, Busy}
use Rattle.session.specs.Pacing.{Handle}
use Rattle.session.proofs.Access.{answered_turn}
use Rattle.session.specs.declared.refusal.Refusal.TheVariants as refusal
use Rattle.session.specs.Answering.{RefusalMeans}
use Rattle.session.specs.Pausing.{ComesTo, IsCall}
use Rattle.session.specs.Session.{IsIdle, IsStep, SessionState, world_of}
use Rattle.board.proofs.Lists.{set_same}

-- ---- a call of a slot that is busy

busy_at : (o : Option (Option Pause)) → (option_and_then (λ (here : Option Pause). here) o ≡ None → ⊥)
    → (pause : Pause) × (o ≡ Some (Some pause))
busy_at None busy = absurd (busy refl)
busy_at (Some None) busy = absurd (busy refl)
busy_at (Some (Some pause)) busy = (pause, refl)

pub called_busy : {A : Type 0} (s : SessionState) (event : Event A) → (IsIdle event.slot s → ⊥)
    → IsCall s (Handle event) Busy s
called_busy s event busy = rw ((busy_at (slice_get s.paused event.slot) busy).1) (refl, refl)

-- ---- an event that asks for no service, as a call

state_there : (s : SessionState) (h : ℕ) → h < length s.slots → (state : SlotState)
    × (slice_get (world_of s).slots h ≡ Some state)
state_there s h fits = found_state s.slots h fits
  where
    found_state : (slots : List BoardSlot) (k : ℕ) → k < length slots → (state : SlotState)
        × (slice_get (map (state_of s.image) slots) k ≡ Some state)
    found_state [] k few = absurd (omega (arith, few))
    found_state (one ∷ slots) zero few = (state_of s.image one, refl)
    found_state (one ∷ slots) (suc k) few = found_state slots k (omega (arith, few))

-- where nothing of its slot is paused
pub idle_step_there : {A : Type 0} (s new : SessionState) (event : Event A) (reply : Reply A) (state : SlotState)
    → slice_get s.paused event.slot ≡ Some None → slice_get (world_of s).slots event.slot ≡ Some state
    → asked event.what state ≡ None → IsStep s event reply new
    → ComesTo (Handle event) (Some None) s (Answered reply) new
idle_step_there {A} s new event reply state is there asks step =
    let t = answered_turn (world_of s) (world_of new) event s.budget reply state _ _ there asks step.answers in
    record {
      turn = record {
        turn = turn.Answered reply;
        output = t.output;
        block = _;
        console = _;
        taken = t.taken;
        told = refl;
        behind = t.appended;
        paused = step.paused ∙ sym (set_same s.paused event.slot None None is refl);
        within = λ was now was_there later_there.
            let same : state ≡ was = same_Some state was (sym there ∙ was_there) in
            let none : asked event.what was ≡ None = rw (← same) asks in
            rw none (step.within was now was_there later_there);
        others = step.others;
        outputs = step.outputs;
        extents = step.extents;
        size = step.size;
        limits = step.limits;
        budget = step.budget;
      };
      limited = λ is. absurd (cc (is));
    }

pub idle_step_call : {A : Type 0} (s new : SessionState) (event : Event A) (reply : Reply A)
    → slice_get s.paused event.slot ≡ Some None → event.slot < length s.slots
    → ((state : SlotState) → asked event.what state ≡ None) → IsStep s event reply new
    → ComesTo (Handle event) (Some None) s (Answered reply) new
idle_step_call s new event reply is fits asks step =
    let found = state_there s event.slot fits in
    idle_step_there s new event reply found.0 is found.1 (asks found.0) step

step_call_at : {A : Type 0} (s new : SessionState) (event : Event A) (reply : Reply A)
    (o : Option (Option Pause)) → slice_get s.paused event.slot ≡ o
    → option_and_then (λ (here : Option Pause). here) o ≡ None → length s.paused ≡ length s.slots
    → ((state : SlotState) → asked event.what state ≡ None) → IsStep s event reply new
    → ComesTo (Handle event) o s (Answered reply) new
step_call_at {A} s new event reply None is idle many asks step =
    let past : length s.slots ≤ event.slot = grind (arith, many, slice_get_cases s.paused event.slot) in
    let bad : reply ≡ BadSlot = step.bad_slot.1 past in
    (ap (λ (a : Reply A). Answered a) bad, step.bad_slot_keeps bad)
step_call_at s new event reply (Some None) is idle many asks step =
    idle_step_call s new event reply is (rw (← many) (slice_get_within s.paused event.slot None is)) asks step
step_call_at s new event reply (Some (Some pause)) is idle many asks step = absurd (cc (idle))

pub call_of_step : {A : Type 0} (s new : SessionState) (event : Event A) (reply : Reply A)
    → IsIdle event.slot s → length s.paused ≡ length s.slots
    → ((state : SlotState) → asked event.what state ≡ None) → IsStep s event reply new
    → IsCall s (Handle event) (Answered reply) new
call_of_step s new event reply idle many asks step =
    step_call_at s new event reply (slice_get s.paused event.slot) refl idle many asks step

-- what a range that isn't in the memory is answered
pub refused_range : (A : Type 0) (inside : Bool)
    → RefusalMeans {A = A} (if inside then refusal.BadRange else refusal.BadSlot)
    (Answered (if inside then BadRange else BadSlot))
refused_range A true = refl
refused_range A false = refl
