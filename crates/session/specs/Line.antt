-- Lines of calls with pauses, and what each guest sees of one: its own events, as if it were alone and never
-- paused.
use Rattle.std.specs.Prelude.{◌≡◌, ◌≢◌, ◌↔◌, ℕ, ◌==◌, false, if◌then◌else◌, None, Some, List, [], ◌∷◌, ◌++◌}
use Rattle.std.specs.List.{slice_get}
use Rattle.chain.specs.declared.budget.Budget.{Budget}
use Rattle.board.specs.declared.event.EventKind.{EventKind}
use Rattle.board.specs.declared.reply.Reply.{Reply}
use Rattle.board.specs.declared.reply.Reply.TheVariants.{NoMemory}
use Rattle.board.specs.declared.reply.Record.{Record}
use Rattle.board.specs.Machine.{RunsOnItsOwn}
use Rattle.board.specs.Slot.{SlotState}
use Rattle.board.specs.Steps.{HoldsAlong, LeadTo}
use Rattle.session.specs.declared.response.Response.{Response}
use Rattle.session.specs.declared.response.Response.TheVariants.{Answered, More, Busy, Idle}
use Rattle.session.specs.Pacing.{Call, Handle, GoOn, IsMove, Move, PacedWorld, slot_in}

-- the moves lead from one world to another
abbrev pub IsLine : {A : Type 0} → Budget → PacedWorld → List (Move A) → PacedWorld → Type 0
IsLine budget old moves new = LeadTo (IsMove budget) (λ move. move.after) old moves new

-- no service of guest g's is paused
abbrev pub IsIdle : ℕ → PacedWorld → Type 0
IsIdle g world = slice_get world.paused g ≡ Some None

-- ---- what one guest has of a line

-- An event counts where it begins: one that finds its slot busy doesn't.
abbrev pub begun_by : {A : Type 0} → ℕ → Call A → Response A → List (EventKind A) → List (EventKind A)
begun_by g (Handle event) Busy rest = rest
begun_by g (Handle event) (Answered reply) rest = if event.slot == g then event.what ∷ rest else rest
begun_by g (Handle event) More rest = if event.slot == g then event.what ∷ rest else rest
begun_by g (Handle event) Idle rest = rest
begun_by g (GoOn slot) response rest = rest

-- what guest g does, in order
abbrev pub own_events : {A : Type 0} → ℕ → List (Move A) → List (EventKind A)
own_events g [] = []
own_events g (move ∷ moves) = begun_by g move.call move.response (own_events g moves)

-- the record of an event that ends with this move, whose earlier pieces put out so much
abbrev pub record_at : {A : Type 0} → ℕ → List ℕ → Move A → Reply A → Record A
record_at g out move reply = record {
  slot = g;
  reply = reply;
  output = out ++ move.output;
  block_irq = move.block_irq;
  console_irq = move.console_irq;
}

-- What guest g is told, in order, where the event that it waits for has put out so much: a record stands
-- where its event ends, and has the output of all its pieces.
abbrev pub told_by : {A : Type 0} → ℕ → List ℕ → Move A → Response A
    → (List ℕ → List (Record A)) → List (Record A)
told_by g out move (Answered reply) rest = record_at g out move reply ∷ rest []
told_by g out move More rest = rest (out ++ move.output)
told_by g out move Busy rest = rest out
told_by g out move Idle rest = rest out

abbrev pub own_records : {A : Type 0} → ℕ → List ℕ → List (Move A) → List (Record A)
own_records g out [] = []
own_records g out (move ∷ moves) =
    if slot_in move.call == g then told_by g out move move.response (λ more. own_records g more moves)
    else own_records g out moves

-- ---- the law's words

-- A move of g's met no refusal: memory was found for it, and no call of the image failed in it.
pub record IsUndisturbed {A : Type 0} (g : ℕ) (old : PacedWorld) (move : Move A) : Type 0 where
  pub memory : slot_in move.call ≡ g → move.response ≢ Answered NoMemory
  pub image : slot_in move.call ≡ g → move.after.world.health.failures ≡ old.world.health.failures

abbrev pub IsQuiet : {A : Type 0} → ℕ → PacedWorld → List (Move A) → Type 0
IsQuiet g old moves = HoldsAlong (IsUndisturbed g) (λ move. move.after) old moves

-- what is noted of guest g says whether an event of it has met a refusal: before the line, or in it
abbrev pub IsNoted : {A : Type 0} → ℕ → PacedWorld → List (Move A) → PacedWorld → Type 0
IsNoted g old moves new =
    (slice_get new.world.disturbed g ≡ Some false)
    ↔ ((slice_get old.world.disturbed g ≡ Some false) × IsQuiet g old moves)

-- Guest g, which was in this state, is told what it would be told alone by a board that never pauses, and is
-- left as it would be.
pub record RunsAlone {A : Type 0} (g : ℕ) (state : SlotState) (moves : List (Move A))
    (new : PacedWorld) : Type 0 where
  pub last : SlotState
  pub own : RunsOnItsOwn g state (own_events g moves) (own_records g [] moves) last
  pub state_after : slice_get new.world.slots g ≡ Some last
