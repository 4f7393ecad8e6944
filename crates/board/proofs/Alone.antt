-- Every guest whose own events met no refusal sees what it would see alone.
use Rattle.std.proofs.Common.{◌≡◌, ◌≢◌, inl, inr, ℕ, true, false, List, Option, Some, None, eqb, refl, sym, ◌∙◌, ap, subst, arith}
use Rattle.std.specs.Prelude.{MatchOption, ⊤}
use Rattle.std.specs.List.{slice_get}
use Rattle.board.specs.declared.event.Event.{Event}
use Rattle.board.specs.declared.event.EventKind.{EventKind}
use Rattle.board.specs.declared.reply.Reply.TheVariants.{NoMemory}
use Rattle.board.specs.declared.reply.Record.{Record}
use Rattle.board.specs.Image.{Health}
use Rattle.hosted_disk.specs.Disk.{HostedDisk}
use Rattle.board.specs.Machine.{Gives, GivesBy, GivesOverImage, IsToldAlone, RunsOnItsOwn, record_of}
use Rattle.board.specs.Steps.{HoldsAlong, IsAnsweredBy}
use Rattle.board.specs.Outcome.{Outcome}
use Rattle.board.specs.Slot.{SlotState}
use Rattle.board.specs.World.{World, MayGive, MayGiveBy, MayGiveOverImage, SlotStep, MissingStep, Step}
use Rattle.board.specs.Line.{Move, IsLine, IsUndisturbed, IsQuiet, RunsAlone, IsAlone, MayBeTold, RunsAsItMay, SeesTheSame, own_events, own_records, events_of, records_of}
pub use Rattle.board.proofs.Lists.{get_set, get_set_other}
use Rattle.board.proofs.OneRun.{next_of, on_host_as, one_run}
use Rattle.board.proofs.Refusals.{Failed, FailedImage, Unput, Unread, Unsent, WasRefused, was_refused}
use Rattle.board.proofs.Seats.{by_slot}
use Rattle.board.proofs.Steps as steps

-- an event that was refused shows it: memory was wanting, or a call of the image failed
refused_shows : {A : Type 0} (state : SlotState) (what : EventKind A) (old new : Health) (outcome : Outcome A)
    → WasRefused state what old new outcome → outcome.reply ≢ NoMemory → new.failures ≡ old.failures → ⊥
refused_shows state what old new outcome (Failed block h) answered stood =
    absurd (omega (arith, h.failures, stood))
refused_shows state what old new outcome (FailedImage n disk asked is by h) answered stood =
    absurd (omega (arith, h.failures, stood))
refused_shows state what old new outcome (Unsent console puts h) answered stood =
    answered (ap (λ o. o.reply) h.is)
refused_shows state what old new outcome (Unput console puts h) answered stood =
    answered (ap (λ o. o.reply) h.alike)
refused_shows state what old new outcome (Unread is h) answered stood =
    answered (ap (λ o. o.reply) h.alike)

-- an event that met no refusal came out as the one-slot machine has it: over an image
pub served_over_image : {A : Type 0} (state : SlotState) (what : EventKind A) (old new : Health)
    (outcome : Outcome A) → MayGiveOverImage state what old new outcome → outcome.reply ≢ NoMemory
    → new.failures ≡ old.failures → GivesOverImage state what old new outcome
served_over_image state what old new outcome (inl alike) answered stood = alike.alike
served_over_image state what old new outcome (inr refused) answered stood =
    absurd (refused_shows state what old new outcome (was_refused state what old new outcome refused)
    answered stood)

-- and whoever has the guest's disk
served_by : {A : Type 0} (host : Option HostedDisk) (state : SlotState) (what : EventKind A) (old new : Health)
    (outcome : Outcome A) → MayGiveBy host state what old new outcome → outcome.reply ≢ NoMemory
    → new.failures ≡ old.failures → GivesBy host state what old new outcome
served_by None state what old new outcome given answered stood =
    served_over_image state what old new outcome given answered stood
served_by {A} (Some disk) state what old new outcome given answered stood = record {
  gives = on_host_as (λ (o : Outcome A). MayGiveOverImage state what old old o)
      (λ (o : Outcome A). GivesOverImage state what old old o) state what outcome
      (λ quiet beside. served_over_image state what old old outcome beside answered refl) given.gives;
  image = given.image;
}

pub served : {A : Type 0} (state : SlotState) (what : EventKind A) (old new : Health) (outcome : Outcome A)
    → MayGive state what old new outcome → outcome.reply ≢ NoMemory → new.failures ≡ old.failures
    → Gives state what old new outcome
served state what old new outcome given answered stood =
    served_by state.host state what old new outcome given answered stood

-- a step's record is of the event's slot
pub recorded_slot : {A : Type 0} (old : World) (event : Event A) (written : Record A) (new : World)
    → Step old event written new → written.slot ≡ event.slot
recorded_slot old event written new step =
    by_slot old event written new (λ missing. ap (λ w. w.slot) missing.recorded)
    (λ state here own. ap (λ w. w.slot) own.recorded) step

-- an event of another slot leaves this one as it is
other_at : {A : Type 0} (g : ℕ) (old : World) (event : Event A) (written : Record A) (new : World)
    → event.slot ≢ g → Step old event written new → slice_get new.slots g ≡ slice_get old.slots g
other_at g old event written new other step =
    by_slot old event written new (λ missing. ap (λ (w : World). slice_get w.slots g) missing.same)
    (λ state here own. ap (λ (slots : List SlotState). slice_get slots g) own.slots
    ∙ get_set_other old.slots event.slot g own.outcome.state other) step

-- the slot's own step
pub slot_step : {A : Type 0} (old : World) (e : Event A) (written : Record A) (new : World) (state :
    SlotState)
    → slice_get old.slots e.slot ≡ Some state → Step old e written new
    → SlotStep old e.slot state e.what written new
slot_step old e written new state here step =
    subst (λ (o : Option SlotState). MatchOption o (MissingStep old e.slot written new)
    (λ s. SlotStep old e.slot s e.what written new)) here step

-- ---- the induction, by what a guest may be told

module _ {A : Type 0} (IsTold : ℕ → SlotState → EventKind A → Record A → SlotState → Type 0) where
  -- what a guest's own event comes to
  record ComesOut (g : ℕ) (state : SlotState) (what : EventKind A) (written : Record A) (new : World)
      : Type 0 where
    last : SlotState
    told : IsTold g state what written last
    there : slice_get new.slots g ≡ Some last

  -- and its own events
  pub record Ran (g : ℕ) (state : SlotState) (moves : List (Move A)) (new : World) : Type 0 where
    pub last : SlotState
    pub own :
        IsAnsweredBy (IsTold g) state (own_events g (events_of moves)) (own_records g (records_of moves)) last
    pub state_after : slice_get new.slots g ≡ Some last

  own_step : (old : World) (move : Move A) (state : SlotState)
      → slice_get old.slots move.event.slot ≡ Some state
      → ((outcome : Outcome A) → MayGive state move.event.what old.health move.after.health outcome
      → move.written ≡ record_of move.event.slot outcome
      → IsTold move.event.slot state move.event.what move.written outcome.state)
      → Step old move.event move.written move.after
      → ComesOut move.event.slot state move.event.what move.written move.after
  own_step old move state here told taken =
      let step = slot_step old move.event move.written move.after state here taken in
      record {
        last = step.outcome.state;
        told = told step.outcome step.given step.recorded;
        there = ap (λ (slots : List SlotState). slice_get slots move.event.slot) step.slots
            ∙ get_set old.slots move.event.slot state step.outcome.state here;
      }

  pub ran : (IsFair : ℕ → World → Move A → Type 0)
      → ((old : World) (move : Move A) (state : SlotState) → IsFair move.event.slot old move
      → (outcome : Outcome A) → MayGive state move.event.what old.health move.after.health outcome
      → move.written ≡ record_of move.event.slot outcome
      → IsTold move.event.slot state move.event.what move.written outcome.state)
      → (g : ℕ) (old : World) (moves : List (Move A)) (new : World) → IsLine old moves new
      → HoldsAlong (IsFair g) (λ move. move.after) old moves → (state : SlotState)
      → slice_get old.slots g ≡ Some state → Ran g state moves new
  ran IsFair told g old moves new line fair state here =
      steps.alone (λ (world : World) (move : Move A). Step world move.event move.written move.after)
      (λ (move : Move A). move.after) (λ (move : Move A). move.event.slot)
      (λ (k : ℕ) (s : SlotState) (world : World). slice_get world.slots k ≡ Some s)
      (λ (k : ℕ) (s : SlotState) (later : List (Move A)). Ran k s later new) IsFair
      (record {
        own = λ was move s test step just there.
            let came = own_step was move s there (told was move s just) step in
            let tested : eqb move.written.slot move.event.slot ≡ true =
            rw (recorded_slot was move.event move.written move.after step) test in
            record {
              next = came.last;
              sits = came.there;
              comes = λ later rest. record {
                last = rest.last;
                own = rw (test, tested) (came.last, came.told, rest.own);
                state_after = rest.state_after;
              };
            };
        others = λ k was move s test other step there.
            let tested : eqb move.written.slot k ≡ false =
            rw (recorded_slot was move.event move.written move.after step) test in
            record {
              next = s;
              sits = other_at k was move.event move.written move.after other step ∙ there;
              comes = λ later rest. record {
                last = rest.last;
                own = rw (test, tested) rest.own;
                state_after = rest.state_after;
              };
            };
      })
      g new (λ s there. record { last = s; own = refl; state_after = there }) old moves state line fair here

-- the law: a guest that is quiet in a line is alone in it
pub alone : {A : Type 0} (g : ℕ) (old : World) (moves : List (Move A)) (new : World) → IsLine old moves new
    → IsQuiet g old moves → IsAlone g old moves new
alone {A} g old moves new line quiet state here =
    let told : (was : World) (move : Move A) (s : SlotState) → IsUndisturbed move.event.slot was move
    → (outcome : Outcome A) → MayGive s move.event.what was.health move.after.health outcome
    → move.written ≡ record_of move.event.slot outcome
    → IsToldAlone move.event.slot s move.event.what move.written outcome.state =
    λ was move s undisturbed outcome given recorded.
    let said : move.written.reply ≡ outcome.reply = ap (λ w. w.reply) recorded in
    record {
      outcome = outcome;
      is_next = next_of s move.event.what was.health move.after.health outcome
          (served s move.event.what was.health move.after.health outcome given
          (λ none. undisturbed.memory refl (said ∙ none)) (undisturbed.image refl));
      recorded = recorded;
      left = refl;
    } in
    let is = ran IsToldAlone IsUndisturbed told g old moves new line quiet state here in
    record { last = is.last; own = is.own; state_after = is.state_after }

-- and one that isn't is told what it may be told alone
pub alone_as_it_may : {A : Type 0} (g : ℕ) (old : World) (moves : List (Move A)) (new : World)
    → IsLine old moves new → (state : SlotState) → slice_get old.slots g ≡ Some state
    → RunsAsItMay g state moves new
alone_as_it_may {A} g old moves new line state here =
    let told : (was : World) (move : Move A) (s : SlotState) → ⊤ → (outcome : Outcome A)
    → MayGive s move.event.what was.health move.after.health outcome
    → move.written ≡ record_of move.event.slot outcome
    → MayBeTold move.event.slot s move.event.what move.written outcome.state =
    λ was move s fair outcome given recorded. record {
      before = was.health;
      behind = move.after.health;
      outcome = outcome;
      given = given;
      recorded = recorded;
      left = refl;
    } in
    let is = ran MayBeTold (λ k was move. ⊤) told g old moves new line
    (steps.always (λ (world : World) (move : Move A). Step world move.event move.written move.after)
    (λ (move : Move A). move.after) old moves) state here in
    record { last = is.last; own = is.own; state_after = is.state_after }

-- and so the guest's state and events decide all that it sees
pub same_seen : {A : Type 0} (g : ℕ) (state : SlotState) (old new old' new' : World)
    (moves moves' : List (Move A)) → IsLine old moves new → IsLine old' moves' new' → IsQuiet g old moves
    → IsQuiet g old' moves' → slice_get old.slots g ≡ Some state → slice_get old'.slots g ≡ Some state
    → own_events g (events_of moves) ≡ own_events g (events_of moves') → SeesTheSame g moves new moves' new'
same_seen g state old new old' new' moves moves' line line' quiet quiet' here here' same =
    let one : RunsAlone g state moves new = alone g old moves new line quiet state here in
    let other : RunsAlone g state moves' new' = alone g old' moves' new' line' quiet' state here' in
    let run =
    one_run g state one.last other.last (own_events g (events_of moves)) (own_records g (records_of moves))
    (own_records g (records_of moves')) one.own
    (subst (λ whats. RunsOnItsOwn g state whats (own_records g (records_of moves')) other.last)
    (sym same) other.own) in
    record {
      records = run.0;
      state_after = one.state_after ∙ (ap (λ (s : SlotState). Some s) run.1 ∙ sym other.state_after);
    }
