-- The step of an event that puts nothing out, of which slots alone differ.
use Rattle.std.proofs.Common.{◌≡◌, ◌≢◌, ◌↔◌, ℕ, ◌<◌, ◌≤◌, List, [], length, Option, refl, sym, ◌∙◌, ap, append-nil, arith}
use Rattle.std.specs.Prelude.{unwrap_or}
use Rattle.std.proofs.lemmas.List.{same_lists}
use Rattle.std.proofs.lemmas.Option.{unwrap_or-slice_get}
use Rattle.board.specs.declared.event.Event.{Event}
use Rattle.board.specs.declared.reply.Reply.{Reply}
use Rattle.board.specs.declared.reply.Reply.TheVariants.{BadRange, BadSlot, NoMemory}
use Rattle.board.specs.Slot.{BoardSlot}
use Rattle.board.specs.World.{Answers, KeepsOthers, World, extents_of}
use Rattle.session.specs.Session.{IsStep, SessionState, limit_of, output_of, world_of}
use Rattle.session.proofs.Steps.{as_many}
use Rattle.session.proofs.Unchanged.{QuietEvent}

-- a step that put nothing out keeps whatever stands in the output
pub behind : {A : Type 0} {old : World} {event : Event A} {reply : Reply A} {new : World} (output : List ℕ)
    → Answers old event reply [] [] new → Answers old event reply output output new
behind {A} {old} {event} {reply} {new} output answers = record {
  written = answers.written;
  step = answers.step;
  replied = answers.replied;
  appended = rw (← answers.appended) (sym (append-nil output));
}

-- where there is no such slot, none changed
slots_stay : (old new : List BoardSlot) (slot : ℕ) → KeepsOthers slot old new → extents_of new ≡ extents_of old
    → length old ≤ slot → new ≡ old
slots_stay old new slot others extents past =
    same_lists new old (as_many old new extents)
    (λ k d fits. sym (unwrap_or-slice_get new k d)
    ∙ (ap (λ (o : Option BoardSlot). unwrap_or o d) (others k (differs k fits)) ∙ unwrap_or-slice_get old k d))
  where
    differs : (k : ℕ) → k < length new → k ≢ slot
    differs k fits is = absurd (omega (arith, as_many old new extents, past, fits, is))

pub slots_step : {A : Type 0} (old new : SessionState) (event : Event A) (reply : Reply A)
    → Answers (world_of old) event reply [] [] (world_of new) → KeepsOthers event.slot old.slots new.slots
    → extents_of new.slots ≡ extents_of old.slots → new ≡ record old { slots = new.slots } → QuietEvent event.what
    → reply ≢ NoMemory → reply ≢ BadRange → (reply ≡ BadSlot) ↔ (length old.slots ≤ event.slot)
    → IsStep old event reply new
slots_step old new event reply answers others extents rest quiet found in_range missing =
    let outputs : new.outputs ≡ old.outputs = ap (λ (s : SessionState). s.outputs) rest in
    record {
      answers = rw outputs (behind (output_of event.slot old) answers);
      others = others;
      outputs = λ other differ. rw outputs refl;
      extents = extents;
      size = ap (λ (s : SessionState). length s.image) rest;
      limits = λ other. rw outputs refl;
      paused = ap (λ (s : SessionState). s.paused) rest;
      budget = ap (λ (s : SessionState). s.budget) rest;
      within = λ before after here there.
          quiet (limit_of event.slot old) before after (output_of event.slot old) (output_of event.slot new) reply;
      refused = λ is. absurd (found is);
      bad_slot = missing;
      bad_slot_keeps = λ is.
          rest ∙ ap (λ (slots : List BoardSlot). record old { slots = slots })
          (slots_stay old.slots new.slots event.slot others extents (missing.0 is));
      bad_range_keeps = λ is. absurd (in_range is);
      no_memory = λ is. absurd (found is);
    }
