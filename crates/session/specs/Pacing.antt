-- A board whose services may pause: what is paused of each slot, and what a call comes to.
use Rattle.std.specs.Prelude.{◌≡◌, ⊤, ℕ, Option, Some, None, List, [], slice_set, Result, Ok, Err}
use Rattle.std.specs.List.{slice_get}
use Rattle.std.specs.Option.{option_and_then}
use Rattle.chain.specs.declared.budget.Budget.{Budget}
use Rattle.board.specs.declared.event.Event.{Event}
use Rattle.board.specs.declared.pause.Pause.{Pause}
use Rattle.board.specs.declared.pause.Turn.{Turn}
use Rattle.board.specs.declared.pause.Turn.TheVariants as turn
use Rattle.board.specs.declared.pause.Work.{Work}
use Rattle.board.specs.declared.pause.Work.TheVariants as work
use Rattle.board.specs.declared.reply.Reply.TheVariants.{BadSlot}
use Rattle.board.specs.Image.{Health}
use Rattle.board.specs.InPlace.{event_in}
use Rattle.board.specs.Pausing.{Begins, GoesOn, SlotTurn}
use Rattle.board.specs.Slot.{SlotState}
use Rattle.board.specs.World.{World}
use Rattle.session.specs.declared.turn_kind.TurnKind.{TurnKind}
use Rattle.session.specs.declared.turn_kind.TurnKind.TheVariants.{Begin, InPlace, Resume}
use Rattle.session.specs.declared.response.Response.{Response}
use Rattle.session.specs.declared.response.Response.TheVariants.{Answered, More, Busy, Idle}

-- the service of a slot that is paused, if one is
abbrev pub paused_at : List (Option Pause) → ℕ → Option Pause
paused_at paused slot = option_and_then (λ here. here) (slice_get paused slot)

-- All that can be seen of such a board.
pub record PacedWorld : Type 0 where
  pub world : World
  pub paused : List (Option Pause)

-- A call: an event, or that the service of a slot goes on.
pub data Call (A : Type 0) : Type 0 where
  Handle : Event A → Call A
  GoOn : ℕ → Call A

-- the slot that it is for
abbrev pub slot_in : {A : Type 0} → Call A → ℕ
slot_in (Handle event) = event.slot
slot_in (GoOn slot) = slot

-- what the caller is told of a turn, and what stays paused
abbrev pub response_to : {A : Type 0} → Turn A → Response A
response_to (turn.Answered reply) = Answered reply
response_to (turn.More pause) = More

abbrev pub paused_by : {A : Type 0} → Turn A → Option Pause
paused_by (turn.Answered reply) = None
paused_by (turn.More pause) = Some pause

-- Nothing changes, and nothing is put out.
pub record IsUnchanged (old new : PacedWorld) (output : List ℕ) : Type 0 where
  pub same : new ≡ old
  pub silent : output ≡ []

-- The slot takes a turn, which shows these interrupt words after it.
pub record IsTurn {A : Type 0} (Comes : SlotState → Health → Health → SlotState → List ℕ → Turn A → Type 0)
    (old : PacedWorld) (h : ℕ) (response : Response A) (output : List ℕ) (block console : ℕ)
    (new : PacedWorld) : Type 0 where
  pub turn : Turn A
  pub taken : SlotTurn Comes old.world h turn output block console new.world
  pub told : response ≡ response_to turn
  pub paused : new.paused ≡ slice_set old.paused h (paused_by turn)

-- What a call comes to, by what is paused of its slot. A slot that waits for its service is busy for every
-- event, and one that waits for none has nothing to go on with.
abbrev pub ComesTo : {A : Type 0} → Budget → Call A → Option (Option Pause) → PacedWorld → Response A → List ℕ
    → ℕ → ℕ → PacedWorld → Type 0
ComesTo budget call None old response output block console new = (response ≡ Answered BadSlot)
    × IsUnchanged old new output
ComesTo budget (Handle event) (Some None) old response output block console new =
    IsTurn (Begins event.what budget) old event.slot response output block console new
ComesTo budget (Handle event) (Some (Some pause)) old response output block console new = (response ≡ Busy)
    × IsUnchanged old new output
ComesTo budget (GoOn slot) (Some None) old response output block console new = (response ≡ Idle)
    × IsUnchanged old new output
ComesTo budget (GoOn slot) (Some (Some pause)) old response output block console new =
    IsTurn (GoesOn pause budget) old slot response output block console new

-- A call that was made: what it came to, and what can be seen after it.
pub record Move (A : Type 0) : Type 0 where
  pub call : Call A
  pub response : Response A
  pub output : List ℕ
  pub block_irq : ℕ
  pub console_irq : ℕ
  pub after : PacedWorld

abbrev pub IsMove : {A : Type 0} → Budget → PacedWorld → Move A → Type 0
IsMove budget old move =
    ComesTo budget move.call (slice_get old.paused (slot_in move.call)) old move.response
    move.output move.block_irq
    move.console_irq move.after

-- ---- one turn of any kind

-- the call for a slot that asks for a turn of this kind
abbrev pub call_of : {A : Type 0} → ℕ → TurnKind A → Call A
call_of slot (Begin what) = Handle (record { slot = slot; what = what.now })
call_of slot (InPlace what) = Handle (record { slot = slot; what = event_in what })
call_of slot Resume = GoOn slot

-- what the board is to do for it, by the service of the slot that is paused, or why there is nothing to do
abbrev pub work_in : {A : Type 0} → TurnKind A → Option Pause → Result (Work A) (Response A)
work_in (Begin what) None = Ok (work.Begin what)
work_in (Begin what) (Some pause) = Err Busy
work_in (InPlace what) None = Ok (work.InPlace what)
work_in (InPlace what) (Some pause) = Err Busy
work_in Resume None = Err Idle
work_in Resume (Some pause) = Ok (work.Resume pause)

-- what holds of the event of a call
abbrev pub IfEvent : {A : Type 0} → Call A → (Event A → Type 0) → Type 0
IfEvent (Handle event) P = P event
IfEvent (GoOn slot) P = ⊤
