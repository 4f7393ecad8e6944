-- An event that is answered at once, as the turn that it begins.
use Rattle.std.proofs.Common.{◌≡◌, ℕ, zero, suc, ◌<◌, List, [], ◌∷◌, Option, Some, None, length, refl, sym, ◌∙◌, ap, subst, arith}
use Rattle.std.specs.Prelude.{MatchOption}
use Rattle.std.specs.List.{slice_get}
use Rattle.chain.specs.declared.budget.Budget.{Budget}
use Rattle.board.specs.declared.event.Event.{Event}
use Rattle.board.specs.declared.event.EventKind.{EventKind}
use Rattle.board.specs.declared.pause.Turn.TheVariants as turn
use Rattle.board.specs.declared.reply.Reply.{Reply}
use Rattle.board.specs.declared.reply.Record.{Record}
use Rattle.board.specs.Image.{Health}
use Rattle.board.specs.Outcome.{Outcome}
use Rattle.board.specs.Pausing.{Begins, TakesTurn, asked}
use Rattle.board.specs.Slot.{SlotState}
use Rattle.board.specs.World.{Answers, MayGive, MissingStep, SlotStep, World}

-- what stands in a place that is there
pub found_at : {X : Type 0} (slots : List X) (h : ℕ) → h < length slots → (found : X)
    × (slice_get slots h ≡ Some found)
found_at [] h fits = absurd (omega (arith, fits))
found_at (s ∷ slots) zero fits = (s, refl)
found_at (s ∷ slots) (suc h) fits = found_at slots h (omega (arith, fits))

given_at : {A : Type 0} (state : SlotState) (what : EventKind A) (before after : Health) (outcome : Outcome A)
    (reply : Reply A) (output : List ℕ)
    → outcome.reply ≡ reply → outcome.output ≡ output → MayGive state what before after outcome
    → MayGive state what before after (record { state = outcome.state; reply = reply; output = output })
given_at state what before after outcome reply output p q h = rw (← p, ← q) h

-- an event that asks for no service is answered in its first turn
pub answered_turn : {A : Type 0} (old new : World) (event : Event A) (budget : Budget) (reply : Reply A)
    (state : SlotState) (out out' : List ℕ)
    → slice_get old.slots event.slot ≡ Some state → asked event.what state ≡ None
    → (answers : Answers old event reply out out' new)
    → TakesTurn (Begins event.what budget) old event.slot (turn.Answered reply) answers.written.block_irq
    answers.written.console_irq out out' new
answered_turn {A} old new event budget reply state out out' here none answers =
    let written = answers.written in
    let step : SlotStep old event.slot state event.what written new =
    subst (λ (o : Option SlotState). MatchOption o (MissingStep old event.slot written new)
    (λ s. SlotStep old event.slot s event.what written new)) here answers.step in
    let said : step.outcome.reply ≡ reply = sym (ap (λ (w : Record A). w.reply) step.recorded)
    ∙ answers.replied in
    let put_out : step.outcome.output ≡ written.output =
    sym (ap (λ (w : Record A). w.output) step.recorded) in
    record {
      output = written.output;
      taken = record {
        state = state;
        there = here;
        after = step.outcome.state;
        comes = rw none (given_at state event.what old.health new.health step.outcome reply written.output
            said put_out step.given);
        block_is = ap (λ (w : Record A). w.block_irq) step.recorded;
        console_is = ap (λ (w : Record A). w.console_irq) step.recorded;
        slots = step.slots;
        disturbed = rw (← said) step.disturbed;
        outside = step.outside;
      };
      appended = answers.appended;
    }
