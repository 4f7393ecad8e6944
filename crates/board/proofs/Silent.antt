-- An event whose bytes its caller has in a slice puts nothing out: no outlet decides what comes of it.
use Rattle.std.proofs.Common.{◌≡◌, ◌≢◌, ℕ, Bool, true, false, List, [], Option, Some, None, refl, sym, ◌∙◌, ap, append-nil, length, arith}
use Rattle.std.specs.Prelude.{if◌then◌else◌}
use Rattle.std.proofs.lemmas.List.{length-append, nil_from_length}
use Rattle.std.proofs.lemmas.Option.{same_Some}
use Rattle.chain.specs.declared.budget.Budget.{Budget}
use Rattle.mmio_window.specs.declared.stage.Stage.{Stage}
use Rattle.mmio_window.specs.declared.stage.Stage.TheVariants.{First}
use Rattle.board.specs.declared.event.Event.{Event}
use Rattle.board.specs.declared.event.EventKind.{EventKind}
use Rattle.board.specs.declared.in_place.InPlace.{InPlace}
use Rattle.board.specs.declared.in_place.InPlace.TheVariants.{Input, Device}
use Rattle.board.specs.declared.pause.Pause.{Pause}
use Rattle.board.specs.declared.pause.Service.{Service}
use Rattle.board.specs.declared.pause.Service.TheVariants.{Block, Receive, Transmit, Further}
use Rattle.board.specs.declared.pause.Turn.{Turn}
use Rattle.board.specs.declared.pause.Turn.TheVariants as turn
use Rattle.board.specs.declared.reply.Reply.{Reply}
use Rattle.board.specs.Hosting.{has_part}
use Rattle.board.specs.Image.{Health}
use Rattle.board.specs.InPlace.{done_in, event_in}
use Rattle.board.specs.Pausing.{ServesTurn, asked, asked_over_image, readied}
use Rattle.board.specs.Slot.{SlotState}
use Rattle.board.specs.World.{Answers, World}
use Rattle.board.specs.Within.{BeginsWithin, PieceBy, TakesWithin, TurnWithin}
use Rattle.board.proofs.FurtherPieces.{asking}

piece_quiet : {A : Type 0} (service : Service) (limit : ℕ) (pause : Pause) (stage : Stage) (budget : Budget)
    (found after : SlotState) (waiting left : List ℕ) (t : Turn A) → service ≢ Transmit
    → PieceBy service limit pause stage budget found after waiting left t
piece_quiet Transmit limit pause stage budget found after waiting left t other = absurd (other refl)
piece_quiet Block limit pause stage budget found after waiting left t other = tt
piece_quiet Receive limit pause stage budget found after waiting left t other = tt
piece_quiet (Further n q) limit pause stage budget found after waiting left t other = tt

no_transmit : (A : Type 0) (what : InPlace) (state : SlotState) (pause : Pause)
    → asked_over_image {A = A} (event_in what) state ≡ Some pause → pause.service ≢ Transmit
no_transmit A (Input bytes) state pause asks is =
    let other : Receive ≡ Transmit = ap (λ (p : Pause). p.service) (same_Some _ pause asks) ∙ is in cc (other)
no_transmit A (Device n what) state pause asks is =
    let a = asking {A = A} n (done_in what) state pause asks in
    let other : Further n a.queue ≡ Transmit = sym (ap (λ (p : Pause). p.service) a.is) ∙ is in cc (other)

takes_quiet : {A : Type 0} (what : InPlace) (limit : ℕ) (found after : SlotState) (waiting left : List ℕ)
    (reply : Reply A) → TakesWithin limit found (event_in what) after waiting left reply
takes_quiet (Input bytes) limit found after waiting left reply = tt
takes_quiet (Device n what) limit found after waiting left reply = tt

-- no outlet decides a turn that pauses only before another service than a transmit
module _ {A : Type 0} (limit : ℕ) (what : EventKind A) (budget : Budget) (found after : SlotState)
    (waiting left : List ℕ) (quiet : (reply : Reply A) → TakesWithin limit found what after waiting left reply) where
  by_asked : (asks : Option Pause) (t : Turn A) → ((pause : Pause) → asks ≡ Some pause → pause.service ≢ Transmit)
      → TurnWithin limit asks what budget found after waiting left t
  by_asked None (turn.Answered reply) other = quiet reply
  by_asked None (turn.More pause) other = tt
  by_asked (Some pause) t other =
      piece_quiet pause.service limit pause First budget (readied what found) after waiting left t (other pause refl)

freely : (part : Bool) (over : Option Pause) (pause : Pause) → (if part then None else over) ≡ Some pause
    → over ≡ Some pause
freely true over pause asks = absurd (cc (asks))
freely false over pause asks = asks

pub quiet_event : {A : Type 0} (what : InPlace) (limit : ℕ) (budget : Budget) (found after : SlotState)
    (waiting left : List ℕ) (t : Turn A) → BeginsWithin limit (event_in what) budget found after waiting left t
quiet_event {A} what limit budget found after waiting left t =
    by_asked limit (event_in what) budget found after waiting left
    (λ reply. takes_quiet what limit found after waiting left reply) (asked {A = A} (event_in what) found) t
    (λ pause asks. no_transmit A what found pause
    (freely (has_part {A = A} found.host (event_in what) found) (asked_over_image {A = A} (event_in what) found) pause asks))

-- what puts nothing out does so behind whatever waits
pub served_behind : {A : Type 0} (Comes : SlotState → Health → Health → SlotState → List ℕ → Turn A → Type 0)
    (state : SlotState) (old new : Health) (after : SlotState) (t : Turn A) (waiting : List ℕ)
    → ServesTurn Comes state old new after t [] [] → ServesTurn Comes state old new after t waiting waiting
served_behind Comes state old new after t waiting r = record {
  output = r.output;
  comes = r.comes;
  appended = rw (← r.appended) (sym (append-nil waiting));
}

-- and so behind nothing
pub answered_silently : {A : Type 0} (old : World) (event : Event A) (reply : Reply A) (waiting : List ℕ) (new : World)
    → Answers old event reply waiting waiting new → Answers old event reply [] [] new
answered_silently old event reply waiting new h = record {
  written = h.written;
  step = h.step;
  replied = h.replied;
  appended = sym (nil_from_length h.written.output
      (omega (arith, ap length h.appended, length-append waiting h.written.output)));
}
