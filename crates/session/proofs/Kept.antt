-- What waits for what is in flight changes nothing.
use Rattle.std.proofs.Common.{◌≡◌, ◌≢◌, inl, inr, ℕ, Bool, true, List, [], ◌++◌, Option, Some, None, refl, sym, ◌∙◌, ap, subst, append-nil}
use Rattle.std.specs.Prelude.{MatchOption, nat_lt, slice_set}
use Rattle.std.specs.List.{slice_get}
use Rattle.std.proofs.lemmas.Bool.{cases_eq}
use Rattle.board.specs.declared.event.Event.{Event}
use Rattle.board.specs.declared.reply.Reply.{Reply}
use Rattle.board.specs.declared.reply.Reply.TheVariants as reply
use Rattle.board.specs.declared.reply.Record.{Record}
use Rattle.board.specs.Image.{Health}
use Rattle.board.specs.Outcome.{Outcome, replies}
use Rattle.board.specs.Slot.{SlotState}
use Rattle.board.specs.World.{MayGive, MissingStep, SlotStep, World, met_refusal, noted}
use Rattle.board.specs.Waiting.{may_wait}
use Rattle.board.proofs.Seats.{noted_none}
use Rattle.board.proofs.Waiting.{busy_stays, rested, waited}
use Rattle.session.specs.Session.{IsKept, IsStep, SessionState, output_of, waiting_at, world_of}
use Rattle.board.proofs.Lists.{set_same}
use Rattle.session.proofs.Waiting.{others_wait, same_outlet}

-- ---- an event that waits, and a completion of a free tag

-- an event that is answered so stays where it was
record Stays {A : Type 0} (state : SlotState) (before after : Health) (outcome : Outcome A) : Type 0 where
  same : outcome.state ≡ state
  silent : outcome.output ≡ []
  health : after ≡ before

stays : {A : Type 0} (state : SlotState) (before after : Health) (outcome : Outcome A) (told : Reply A)
    → outcome ≡ replies state told → after ≡ before → Stays state before after outcome
stays {A} state before after outcome told is image = record {
  same = ap (λ (o : Outcome A). o.state) is;
  silent = ap (λ (o : Outcome A). o.output) is;
  health = image;
}

-- ---- so the session stays

same_world : (states states' : List SlotState) (flags flags' : List Bool) (outside outside' : List ℕ)
    (health health' : Health) → states ≡ states' → flags ≡ flags' → outside ≡ outside' → health ≡ health'
    → ◌≡◌ {A = World} (record { slots = states; disturbed = flags; outside = outside; health = health })
    (record { slots = states'; disturbed = flags'; outside = outside'; health = health' })
same_world states states' flags flags' outside outside' health health' p q r s = rw (p, q, r, s) refl

unnoted : {A : Type 0} (told : Reply A) (h : ℕ) (before after : Health) (flags : List Bool)
    → met_refusal told before.failures before.failures ≡ nat_lt before.failures before.failures
    → after ≡ before → noted h (met_refusal told before.failures after.failures) flags ≡ flags
unnoted told h before after flags quiet same = rw (same, quiet) (sym (noted_none h before.failures flags))

stays_waiting : {A : Type 0} (old new : SessionState) (event : Event A) (told : Reply A)
    → IsStep old event told new → output_of event.slot new ≡ output_of event.slot old
    → (slot : ℕ) → waiting_at slot new.outputs ≡ waiting_at slot old.outputs
stays_waiting old new event told h same slot =
    elim (cases_eq event.slot slot) [
      | inl is ↦ subst (λ k. waiting_at k new.outputs ≡ waiting_at k old.outputs) is
          (same_outlet (waiting_at event.slot new.outputs) (waiting_at event.slot old.outputs) same
          (h.limits event.slot))
      | inr other ↦ others_wait slot event.slot old.outputs new.outputs h.outputs other
    ]

kept_at : {A : Type 0} (old new : SessionState) (event : Event A) (told : Reply A) (o : Option SlotState)
    (h : IsStep old event told new) → slice_get (world_of old).slots event.slot ≡ o → told ≢ reply.BadSlot
    → ((failures : ℕ) → met_refusal told failures failures ≡ nat_lt failures failures)
    → ((state : SlotState) (before after : Health) (outcome : Outcome A)
    → MayGive state event.what before after outcome → outcome.reply ≡ told
    → Stays state before after outcome)
    → MatchOption o (MissingStep (world_of old) event.slot h.answers.written (world_of new))
    (λ state. SlotStep (world_of old) event.slot state event.what h.answers.written (world_of new))
    → IsKept old new
kept_at {A} old new event told None h here there quiet keeps step =
    absurd (there (sym h.answers.replied ∙ ap (λ (w : Record A). w.reply) step.recorded))
kept_at {A} old new event told (Some state) h here there quiet keeps step =
    let said : step.outcome.reply ≡ told =
    sym (ap (λ (w : Record A). w.reply) step.recorded) ∙ h.answers.replied in
    let kept = keeps state (world_of old).health (world_of new).health step.outcome step.given said in
    let silent : h.answers.written.output ≡ [] =
    ap (λ (w : Record A). w.output) step.recorded ∙ kept.silent in
    record {
      world = same_world _ _ _ _ _ _ _ _
          (step.slots ∙ ap (λ (s : SlotState). slice_set (world_of old).slots event.slot s) kept.same
          ∙ set_same (world_of old).slots event.slot state state here refl)
          (step.disturbed ∙ ap (λ (r : Reply A). noted event.slot
          (met_refusal r (world_of old).health.failures (world_of new).health.failures)
          (world_of old).disturbed) said
          ∙ unnoted told event.slot (world_of old).health (world_of new).health (world_of old).disturbed
          (quiet (world_of old).health.failures) kept.health)
          step.outside kept.health;
      outputs = stays_waiting old new event told h
          (h.answers.appended ∙ ap (λ (bytes : List ℕ). output_of event.slot old ++ bytes) silent
          ∙ append-nil (output_of event.slot old));
      paused = h.paused;
      budget = h.budget;
    }

pub busy_keeps : {A : Type 0} (old new : SessionState) (event : Event A) → IsStep old event reply.Busy new
    → IsKept old new × (may_wait event.what ≡ true)
busy_keeps {A} old new event h = (
  kept_at old new event reply.Busy (slice_get (world_of old).slots event.slot) h refl (λ is. cc (is))
      (λ failures. refl) (λ state before after outcome given is.
      let found = waited state.host state event.what before after outcome given is in
      stays state before after outcome reply.Busy found.0.is found.1) h.answers.step,
  waits (slice_get (world_of old).slots event.slot) h.answers.step,
)
  where
    waits : (o : Option SlotState)
        → MatchOption o (MissingStep (world_of old) event.slot h.answers.written (world_of new))
        (λ state. SlotStep (world_of old) event.slot state event.what h.answers.written (world_of new))
        → may_wait event.what ≡ true
    waits None step =
        let no : reply.BadSlot ≡ reply.Busy =
        sym (ap (λ (w : Record A). w.reply) step.recorded) ∙ h.answers.replied in absurd (cc (no))
    waits (Some state) step =
        (busy_stays state event.what (world_of old).health (world_of new).health step.outcome step.given
        (sym (ap (λ (w : Record A). w.reply) step.recorded) ∙ h.answers.replied)).1

pub idle_keeps : {A : Type 0} (old new : SessionState) (event : Event A) → IsStep old event reply.Idle new
    → IsKept old new
idle_keeps {A} old new event h =
    kept_at old new event reply.Idle (slice_get (world_of old).slots event.slot) h refl (λ is. cc (is))
    (λ failures. refl) (λ state before after outcome given is.
    let found = rested state.host state event.what before after outcome given is in
    stays state before after outcome reply.Idle found.0 found.1) h.answers.step
