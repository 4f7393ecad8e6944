-- What is noted of a guest says exactly whether an event of it has met a refusal, however its services pause.
use Rattle.std.proofs.Common.{◌≡◌, ◌≢◌, inl, inr, ℕ, ◌≤◌, Bool, true, false, List, Option, Some, None, refl, sym, ◌∙◌, ap, arith}
use Rattle.std.specs.Prelude.{◌↔◌}
use Rattle.std.specs.List.{slice_get}
use Rattle.chain.specs.declared.budget.Budget.{Budget}
use Rattle.chain.specs.declared.budget.Progress.{Progress}
use Rattle.chain.specs.declared.budget.Progress.TheVariants as progress
use Rattle.mmio_window.specs.declared.stage.Stage.{Stage}
use Rattle.mmio_window.specs.declared.stage.Stage.TheVariants.{First, Next}
use Rattle.block_device.specs.declared.device.BlockDevice.{BlockDevice}
use Rattle.board.specs.declared.event.EventKind.{EventKind}
use Rattle.board.specs.declared.pause.Pause.{Pause}
use Rattle.board.specs.declared.pause.Service.{Service}
use Rattle.board.specs.declared.pause.Service.TheVariants.{Block, Receive, Transmit, Further}
use Rattle.board.specs.declared.pause.Turn.{Turn}
use Rattle.board.specs.declared.pause.Turn.TheVariants as turn
use Rattle.board.specs.declared.reply.Reply.TheVariants.{Done, NoMemory}
use Rattle.board.specs.Image.{Health}
use Rattle.board.specs.ImageDisks.{image_served}
use Rattle.board.specs.Pausing as pausing
use Rattle.board.specs.Pausing.{Begins, GoesOn, GoesOnBy, IsPiece, IsPieceAtDevice, TurnsTo, asked, is_hosts, met_in, readied}
use Rattle.board.specs.Slot.{SlotState}
use Rattle.board.specs.World.{MayGive, noted}
use Rattle.board.proofs.Failures.{given_failures}
use Rattle.board.proofs.Noted.{met, noted_exactly, unmet}
use Rattle.board.proofs.Steps.{noted_along}
use Rattle.board.proofs.Whole.{came}
use Rattle.session.specs.declared.response.Response.{Response}
use Rattle.session.specs.declared.response.Response.TheVariants.{Answered}
use Rattle.session.specs.Line.{IsLine, IsNoted, IsUndisturbed}
use Rattle.session.specs.Pacing.{Call, ComesTo, GoOn, Handle, IsMove, IsTurn, IsUnchanged, Move, PacedWorld, response_to, slot_in}

-- ---- the image's failures never fall

piece_rises : (service : Service) (stage : Stage) (budget : Budget) (progress : Progress) (old : SlotState)
    (before after : Health) (new : SlotState) (output : List ℕ)
    → IsPiece service stage budget progress old before after new output → before.failures ≤ after.failures
piece_rises Block stage budget progress old before after new output (inl h) = let same = h.failures in
    omega (arith, same)
piece_rises Block stage budget progress old before after new output (inr h) = let rose = h.failures in
    omega (arith, rose)
piece_rises Receive stage budget progress old before after new output h = let same =
    ap (λ (x : Health). x.failures) h.image in omega (arith, same)
piece_rises Transmit stage budget progress old before after new output h = let same =
    ap (λ (x : Health). x.failures) h.image in omega (arith, same)
piece_rises (Further n q) stage budget progress old before after new output h =
    at_device (image_served (Further n q) old) h
  where
    at_device : (found : Option BlockDevice) → IsPieceAtDevice found n q stage budget progress old before after new output
        → before.failures ≤ after.failures
    at_device None h = let same = ap (λ (x : Health). x.failures) h.image in omega (arith, same)
    at_device (Some disk) (inl h) = let same = h.1 in omega (arith, same)
    at_device (Some disk) (inr h) = let rose = h.1 in omega (arith, rose)

comes_rises : {A : Type 0} (pause : Pause) (stage : Stage) (budget : Budget) (old : SlotState)
    (before after : Health) (new : SlotState) (output : List ℕ) (t : Turn A)
    → pausing.ComesTo pause stage budget old before after new output t → before.failures ≤ after.failures
comes_rises pause stage budget old before after new output (turn.Answered reply) (inl (done, h)) =
    piece_rises pause.service stage budget progress.Done old before after new output h
comes_rises pause stage budget old before after new output (turn.Answered reply) (inr (lacks, (is, h))) =
    let same = ap (λ (x : Health). x.failures) h.image in omega (arith, same)
comes_rises pause stage budget old before after new output (turn.More next) (is, h) =
    piece_rises pause.service stage budget progress.More old before after new output h

begins_rises : {A : Type 0} (o : Option Pause) (what : EventKind A) (budget : Budget) (old : SlotState)
    (before after : Health) (new : SlotState) (output : List ℕ) (t : Turn A)
    → TurnsTo (MayGive old what before after) o what budget old before after new output t
    → before.failures ≤ after.failures
begins_rises (Some pause) what budget old before after new output t h =
    comes_rises pause First budget (readied what old) before after new output t h
begins_rises None what budget old before after new output (turn.Answered reply) h =
    given_failures old what before after (came new reply output) h
begins_rises None what budget old before after new output (turn.More pause) h = absurd h

goes_rises : {A : Type 0} (hosts : Bool) (pause : Pause) (budget : Budget) (old : SlotState)
    (before after : Health) (new : SlotState) (output : List ℕ) (t : Turn A)
    → GoesOnBy hosts pause budget old before after new output t → before.failures ≤ after.failures
goes_rises true pause budget old before after new output t h = let same =
    ap (λ (x : Health). x.failures) h.image in omega (arith, same)
goes_rises false pause budget old before after new output t h =
    comes_rises pause Next budget old before after new output t h

-- ---- one move

-- a turn, as whether it met a refusal
turn_unmet : {A : Type 0} (t : Turn A) (f g : ℕ) → f ≤ g → met_in t f g ≡ false
    → (response_to t ≢ Answered NoMemory) × (g ≡ f)
turn_unmet {A} (turn.Answered reply) f g rises none =
    let both = unmet reply f g rises none in
    (λ said. both.0 (let same : Answered reply ≡ Answered NoMemory = said in cc), both.1)
turn_unmet {A} (turn.More pause) f g rises none = (λ said. cc, (unmet {A = A} Done f g rises none).1)

turn_met : {A : Type 0} (t : Turn A) (f g : ℕ) → response_to t ≢ Answered NoMemory → g ≡ f
    → met_in t f g ≡ false
turn_met (turn.Answered reply) f g had stood = met reply f g (λ none. had (ap (λ r. Answered r) none)) stood
turn_met {A} (turn.More pause) f g had stood = met {A = A} Done f g (λ none. cc) stood

abbrev Notes : {A : Type 0} → ℕ → PacedWorld → Move A → Type 0
Notes g old move = (slice_get move.after.world.disturbed g ≡ Some false)
    ↔ ((slice_get old.world.disturbed g ≡ Some false) × IsUndisturbed g old move)

notes : {A : Type 0} (g : ℕ) (old : PacedWorld) (move : Move A) (m : Bool)
    → move.after.world.disturbed ≡ noted (slot_in move.call) m old.world.disturbed
    → (m ≡ false) ↔ ((move.response ≢ Answered NoMemory)
    × (move.after.world.health.failures ≡ old.world.health.failures)) → Notes g old move
notes g old move m is met =
    let exactly =
    noted_exactly old.world.disturbed move.after.world.disturbed (slot_in move.call) g m _ _ is met in (
      λ found. let now = exactly.0 found in (now.0, record { memory = now.1.0; image = now.1.1 }),
      λ found. exactly.1 (found.0, (found.1.memory, found.1.image)),
    )

notes_unchanged : {A : Type 0} (g : ℕ) (old : PacedWorld) (move : Move A) (response : Response A)
    → response ≢ Answered NoMemory → (move.response ≡ response) × IsUnchanged old move.after move.output
    → Notes g old move
notes_unchanged g old move response had c =
    notes g old move false (ap (λ (w : PacedWorld). w.world.disturbed) c.1.same) (
      λ none.
          (λ said. had (sym c.0 ∙ said), ap (λ (w : PacedWorld). w.world.health.failures) c.1.same),
      λ both. refl,
    )

notes_turn : {A : Type 0} (Does : SlotState → Health → Health → SlotState → List ℕ → Turn A → Type 0)
    → ((s : SlotState) (f k : Health) (s' : SlotState) (output : List ℕ) (t : Turn A)
    → Does s f k s' output t → f.failures ≤ k.failures)
    → (g h : ℕ) (old : PacedWorld) (move : Move A) → slot_in move.call ≡ h
    → IsTurn Does old h move.response move.output move.block_irq move.console_irq move.after
    → Notes g old move
notes_turn Does rises g h old move is t =
    let rose : old.world.health.failures ≤ move.after.world.health.failures =
    rises t.taken.state old.world.health move.after.world.health t.taken.after move.output t.turn
    t.taken.comes in
    notes g old move _ (rw is t.taken.disturbed) (
      λ none.
          let both = turn_unmet t.turn old.world.health.failures move.after.world.health.failures rose none in
          (λ lacking. both.0 (sym t.told ∙ lacking), both.1),
      λ had.
          turn_met t.turn old.world.health.failures move.after.world.health.failures
          (λ lacking. had.0 (t.told ∙ lacking)) had.1,
    )

notes_at : {A : Type 0} (g : ℕ) (budget : Budget) (old : PacedWorld) (move : Move A) (call : Call A)
    (o : Option (Option Pause)) → move.call ≡ call
    → ComesTo budget call o old move.response move.output move.block_irq move.console_irq move.after
    → Notes g old move
notes_at g budget old move (Handle event) (Some None) is c =
    notes_turn (Begins event.what budget) (λ s f k s' output t h. begins_rises (asked event.what s) event.what
    budget s f k s' output t h) g event.slot old move (ap slot_in is) c
notes_at {A} g budget old move (GoOn slot) (Some (Some pause)) is c =
    notes_turn (GoesOn pause budget) (λ s f k s' output t h. goes_rises {A = A} (is_hosts s.host pause.service)
    pause budget s f k s' output t h) g slot old move (ap slot_in is) c
notes_at g budget old move call o is c = notes_unchanged g old move _ (λ no. cc) c

-- and a whole line
pub line_noted : {A : Type 0} (g : ℕ) (budget : Budget) (old new : PacedWorld) (moves : List (Move A))
    → IsLine budget old moves new → IsNoted g old moves new
line_noted {A} g budget old new moves line =
    noted_along (IsMove {A = A} budget) (λ (move : Move A). move.after)
    (λ world. slice_get world.world.disturbed g ≡ Some false) (IsUndisturbed g)
    (λ was move step.
    notes_at g budget was move move.call (slice_get was.paused (slot_in move.call)) refl step)
    old moves new line
