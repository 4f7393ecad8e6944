-- What comes of an event of one slot.
use Rattle.std.specs.Prelude.{◌≡◌, ℕ, List, []}
use Rattle.board.specs.declared.reply.Reply.{Reply}
use Rattle.board.specs.declared.reply.Reply.TheVariants.{Done}
use Rattle.board.specs.Image.{Health}
use Rattle.board.specs.Slot.{SlotState}

-- The slot's state after the event, the reply, and what the console put out.
pub record Outcome (A : Type 0) : Type 0 where
  pub state : SlotState
  pub reply : Reply A
  pub output : List ℕ

-- the state stays, this is the reply, and nothing is put out
abbrev pub replies : {A : Type 0} → SlotState → Reply A → Outcome A
replies state reply = record { state = state; reply = reply; output = [] }

-- the event was done, this is the state after it, and nothing is put out
abbrev pub does : {A : Type 0} → SlotState → Outcome A
does state = replies state Done

-- What comes of an event that the image has no part in.
pub record IsDetermined {A : Type 0} (outcome wanted : Outcome A) (before after : Health) : Type 0 where
  pub alike : outcome ≡ wanted
  pub image : after ≡ before
