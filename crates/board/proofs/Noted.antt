-- What is noted of a guest says exactly whether an event of it has met a refusal.
use Rattle.std.proofs.Common.{◌≡◌, ◌≢◌, ◌⊎◌, inl, inr, ℕ, zero, suc, ◌≤◌, Bool, true, false, List, [], ◌∷◌, Option, Some, None, refl, sym, ◌∙◌, ap, subst, arith}
use Rattle.std.specs.Prelude.{slice_set, MatchOption, nat_lt, ◌↔◌}
use Rattle.std.specs.List.{slice_get}
use Rattle.std.proofs.lemmas.Bool.{cases_eq}
use Rattle.std.proofs.lemmas.Bool.Decides.{nat_tests}
use Rattle.board.specs.declared.reply.Reply.{Reply}
use Rattle.board.specs.declared.reply.Reply.TheVariants as reply
use Rattle.board.specs.Slot.{SlotState}
use Rattle.board.specs.World.{World, SlotStep, MissingStep, Step, lacks_memory, met_refusal, noted}
use Rattle.board.specs.Line.{Move, IsLine, IsUndisturbed, IsNoted}
use Rattle.board.proofs.Lists.{get_set_other}
use Rattle.board.proofs.Failures.{given_failures}
use Rattle.board.proofs.Steps.{noted_along}

-- a reply that doesn't say so didn't want memory
lacks : {A : Type 0} (answer : Reply A) → lacks_memory answer ≡ false → answer ≢ reply.NoMemory
lacks answer has none = let said : lacks_memory answer ≡ true = ap lacks_memory none in cc

pub had_memory : {A : Type 0} (answer : Reply A) → answer ≢ reply.NoMemory → lacks_memory answer ≡ false
had_memory reply.NoMemory had = absurd (had refl)
had_memory _ had = refl

-- no refusal was met, as a test and as two facts
pub unmet : {A : Type 0} (answer : Reply A) (f g : ℕ) → f ≤ g → met_refusal answer f g ≡ false
    → (answer ≢ reply.NoMemory) × (g ≡ f)
unmet answer f g rises none =
    let first : lacks_memory answer ≡ false = grind (arith, nat_tests, none) in
    let second : nat_lt f g ≡ false = grind (arith, nat_tests, none) in
    (lacks answer first, grind (arith, nat_tests, second, rises))

pub met : {A : Type 0} (answer : Reply A) (f g : ℕ) → answer ≢ reply.NoMemory → g ≡ f
    → met_refusal answer f g ≡ false
met answer f g had stood = rw (had_memory answer had, stood) (grind (arith, nat_tests))

-- a place that was set to true isn't false
set_true : (flags : List Bool) (h : ℕ) → slice_get (slice_set flags h true) h ≢ Some false
set_true [] h is = cc
set_true (x ∷ flags) zero is = cc
set_true (x ∷ flags) (suc h) is = set_true flags h is

-- what is noted of guest g after an event of slot h that met a refusal or didn't
pub noted_exactly : (flags flags' : List Bool) (h g : ℕ) (m : Bool) (Had Stood : Type 0)
    → flags' ≡ noted h m flags → (m ≡ false) ↔ (Had × Stood) → (slice_get flags' g ≡ Some false)
    ↔ ((slice_get flags g ≡ Some false) × ((h ≡ g → Had) × (h ≡ g → Stood)))
noted_exactly flags flags' h g m Had Stood is met = rw is (by (cases_eq h g) m met)
  where
    by : (h ≡ g) ⊎ (h ≢ g) → (b : Bool) → (b ≡ false) ↔ (Had × Stood)
        → (slice_get (noted h b flags) g ≡ Some false)
        ↔ ((slice_get flags g ≡ Some false) × ((h ≡ g → Had) × (h ≡ g → Stood)))
    by same false met =
        (λ found. (found, (λ mine. (met.0 refl).0, λ mine. (met.0 refl).1)), λ found. found.0)
    by (inl same) true met = (
      λ found. absurd (set_true flags h (subst (λ (k : ℕ). slice_get (noted h true flags) k ≡ Some false)
          (sym same) found)),
      λ found. absurd (let no = met.1 (found.1.0 same, found.1.1 same) in cc),
    )
    by (inr other) true met =
        let stays = get_set_other flags h g true other in (
          λ found. (sym stays ∙ found, (λ mine. absurd (other mine), λ mine. absurd (other mine))),
          λ found. stays ∙ found.0,
        )

-- one event
abbrev Notes : {A : Type 0} → ℕ → World → Move A → Type 0
Notes g old move = (slice_get move.after.disturbed g ≡ Some false)
    ↔ ((slice_get old.disturbed g ≡ Some false) × IsUndisturbed g old move)

notes : {A : Type 0} (g : ℕ) (old : World) (move : Move A) (m : Bool)
    → move.after.disturbed ≡ noted move.event.slot m old.disturbed
    → (m ≡ false) ↔ ((move.written.reply ≢ reply.NoMemory)
    × (move.after.health.failures ≡ old.health.failures))
    → Notes g old move
notes g old move m is met =
    let exactly = noted_exactly old.disturbed move.after.disturbed move.event.slot g m _ _ is met in (
      λ found. let now = exactly.0 found in (now.0, record { memory = now.1.0; image = now.1.1 }),
      λ found. exactly.1 (found.0, (found.1.memory, found.1.image)),
    )

notes_at : {A : Type 0} (g : ℕ) (old : World) (move : Move A) (o : Option SlotState)
    → MatchOption o (MissingStep old move.event.slot move.written move.after)
    (λ s. SlotStep old move.event.slot s move.event.what move.written move.after) → Notes g old move
notes_at {A} g old move None step =
    notes g old move false (ap (λ (w : World). w.disturbed) step.same) (
      λ none. (
        λ lacking. let said : ◌≡◌ {A = Reply A} reply.BadSlot reply.NoMemory =
            sym (ap (λ w. w.reply) step.recorded) ∙ lacking in cc,
        ap (λ (w : World). w.health.failures) step.same,
      ),
      λ had. refl,
    )
notes_at g old move (Some s) step =
    let said : move.written.reply ≡ step.outcome.reply = ap (λ w. w.reply) step.recorded in
    let rises : old.health.failures ≤ move.after.health.failures =
    given_failures s move.event.what old.health move.after.health step.outcome step.given in
    notes g old move _ step.disturbed (
      λ none.
          let both = unmet step.outcome.reply old.health.failures move.after.health.failures rises none in
          (λ lacking. both.0 (sym said ∙ lacking), both.1),
      λ had.
          met step.outcome.reply old.health.failures move.after.health.failures
          (λ lacking. had.0 (said ∙ lacking)) had.1,
    )

-- and a whole line
pub line_noted : {A : Type 0} (g : ℕ) (old : World) (moves : List (Move A)) (new : World)
    → IsLine old moves new → IsNoted g old moves new
line_noted {A} g old moves new line =
    noted_along (λ (world : World) (move : Move A). Step world move.event move.written move.after)
    (λ (move : Move A). move.after) (λ world. slice_get world.disturbed g ≡ Some false) (IsUndisturbed g)
    (λ was move step. notes_at g was move (slice_get was.slots move.event.slot) step) old moves new line
