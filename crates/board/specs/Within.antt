-- What an outlet with a limit decides: which of the bytes that a console puts out may wait in it.
use Rattle.std.specs.Prelude.{◌≡◌, ◌≢◌, ◌⊎◌, ℕ, ◌<◌, ◌≤◌, ⊤, Option, Some, None, List, [], ◌∷◌, ◌++◌, length}
use Rattle.std.specs.List.{slice_get}
use Rattle.chain.specs.declared.budget.Budget.{Budget}
use Rattle.chain.specs.declared.budget.Progress.{Progress}
use Rattle.chain.specs.declared.budget.Progress.TheVariants as progress
use Rattle.chain.specs.Service.{Ending, Refused}
use Rattle.mmio_window.specs.declared.stage.Stage.{Stage}
use Rattle.mmio_window.specs.declared.stage.Stage.TheVariants.{First, Next}
use Rattle.mmio_window.specs.Serving.{Notified}
use Rattle.mmio_window.specs.Window.{queue_at}
use Rattle.sector_cache.specs.Disk.{Disk}
use Rattle.console_device.specs.Device.{transmit_fitting, transmit_within}
use Rattle.board.specs.declared.event.EventKind.{EventKind}
use Rattle.board.specs.declared.event.EventKind.TheVariants.{Write}
use Rattle.board.specs.declared.pause.Pause.{Pause}
use Rattle.board.specs.declared.pause.Service.{Service}
use Rattle.board.specs.declared.pause.Service.TheVariants.{Transmit}
use Rattle.board.specs.declared.pause.Work.{Work}
use Rattle.board.specs.declared.pause.Work.TheVariants.{Begin, InPlace, Resume}
use Rattle.board.specs.declared.pause.Turn.{Turn}
use Rattle.board.specs.declared.pause.Turn.TheVariants.{Answered, More}
use Rattle.board.specs.declared.reply.Reply.{Reply}
use Rattle.board.specs.declared.reply.Reply.TheVariants.{Done, NoMemory}
use Rattle.board.specs.Machine.{IsNext, task_at, with_write}
use Rattle.mmio_window.specs.Pieces.{IsRefusedAt, ServesTo}
use Rattle.board.specs.Pausing.{asked, asked_over_image, readied, reply_of}
use Rattle.board.specs.Image.{bytes_of}
use Rattle.board.specs.InPlace.{event_in}
use Rattle.board.specs.Slot.{BoardSlot, SlotState, state_of}
use Rattle.board.specs.Task.{Task, Serve, PutOut}
use Rattle.board.specs.World.{BoardState}

-- what a guest is answered whose transmit queue was served to this end
abbrev pub reply_at : {A : Type 0} → Ending → Reply A
reply_at Refused = NoMemory
reply_at ending = Done

-- The console puts out the chains of its transmit queue into an outlet with this limit: each chain that fits
-- behind what waits, up to the first that doesn't.
pub record TransmitsWithin {A : Type 0} (limit : ℕ) (state after : SlotState) (waiting left : List ℕ)
    (reply : Reply A) : Type 0 where
  pub ending : Ending
  pub notified :
      Notified (transmit_within (Some limit)) 1 (queue_at 1 state.console) ending state.memory after.memory
      state.console after.console waiting left
  pub is : after ≡ record state { memory = after.memory; console = after.console }
  pub replied : reply ≡ reply_at ending

-- One byte is put out where fewer wait than may.
pub record PutsWithin {A : Type 0} (limit byte : ℕ) (state after : SlotState) (waiting left : List ℕ)
    (reply : Reply A) : Type 0 where
  pub stays : after ≡ state
  pub fits : length waiting < limit → (left ≡ waiting ++ byte ∷ []) × (reply ≡ Done)
  pub refused : limit ≤ length waiting → (left ≡ waiting) × (reply ≡ NoMemory)

-- how a task that puts something out is decided; the others put out nothing
abbrev pub PutsOutWithin : {A : Type 0} → ℕ → Task → SlotState → SlotState → List ℕ
    → List ℕ → Reply A → Type 0
PutsOutWithin limit (Serve Transmit) state after waiting left reply =
    TransmitsWithin limit state after waiting left reply
PutsOutWithin limit (PutOut byte) state after waiting left reply =
    PutsWithin limit byte state after waiting left reply
PutsOutWithin limit task state after waiting left reply = ⊤

-- and how an event is
abbrev pub TakesWithin : {A : Type 0} → ℕ → SlotState → EventKind A → SlotState → List ℕ
    → List ℕ → Reply A → Type 0
TakesWithin limit state (Write window offset width value) after waiting left reply =
    PutsOutWithin limit (task_at window offset width value state) (with_write window offset width value state)
    after waiting left reply
TakesWithin limit state what after waiting left reply = ⊤

-- How an outlet decides what a slot of a board puts out: by its limit, where it has one, of the slot as its
-- guest sees it before and after.
abbrev pub DecidesSlot : {I : Type 0} → (I → Disk) → Option ℕ → ℕ → BoardState I → BoardState I
    → (ℕ → SlotState → SlotState → Type 0) → Type 0
DecidesSlot disk outlet slot old new Within =
    (limit : ℕ) → outlet ≡ Some limit →
    (found after : BoardSlot) → slice_get old.slots slot ≡ Some found
    → slice_get new.slots slot ≡ Some after →
    Within limit (state_of (bytes_of (disk old.image)) found) (state_of (bytes_of (disk new.image)) after)

-- the same of one slot over an image
abbrev pub DecidesOver : {A : Type 0} → (ℕ → SlotState → SlotState → List ℕ → List ℕ → Turn A → Type 0)
    → Option ℕ → BoardSlot → BoardSlot → Disk → Disk → List ℕ → List ℕ → Turn A → Type 0
DecidesOver Within outlet old new before after waiting left turn =
    (limit : ℕ) → outlet ≡ Some limit →
    Within limit (state_of (bytes_of before) old) (state_of (bytes_of after) new) waiting left turn

-- ---- a guest with its outlet

-- All that one guest can see, and the bytes of its output that wait.
pub record Seat : Type 0 where
  pub state : SlotState
  pub waiting : List ℕ

-- the tasks that put something out, and the events
abbrev pub IsPuttingOut : Task → Type 0
IsPuttingOut (Serve Transmit) = ⊤
IsPuttingOut (PutOut byte) = ⊤
IsPuttingOut task = ⊥

abbrev pub MayPutOut : {A : Type 0} → SlotState → EventKind A → Type 0
MayPutOut state (Write window offset width value) = IsPuttingOut (task_at window offset width value state)
MayPutOut state what = ⊥

-- What comes of one event of a guest that is alone with its outlet: what it gives where room is found, and
-- where it puts something out the room of the outlet decides.
pub record IsNextWithin {A : Type 0} (limit : ℕ) (old : Seat) (what : EventKind A) (reply : Reply A)
    (new : Seat) : Type 0 where
  pub output : List ℕ
  pub behind : new.waiting ≡ old.waiting ++ output
  pub within : TakesWithin limit old.state what new.state old.waiting new.waiting reply
  pub served : reply ≢ NoMemory
      → IsNext old.state what (record { state = new.state; reply = reply; output = output })
  pub refused : reply ≡ NoMemory → MayPutOut old.state what

-- ---- pieces

-- A piece of a transmit into an outlet with this limit, in which each chain fits.
pub record IsSentPiece (limit : ℕ) (stage : Stage) (budget : Budget) (progress : Progress)
    (old new : SlotState) (waiting left : List ℕ) : Type 0 where
  pub served :
      ServesTo stage (transmit_fitting (Some limit)) budget 1 (queue_at 1 old.console) progress
      old.memory new.memory
      old.console new.console waiting left
  pub is : new ≡ record old { memory = new.memory; console = new.console }

-- and one that ends since the chain on offer doesn't fit
pub record IsUnsentPiece (limit : ℕ) (stage : Stage) (budget : Budget) (old new : SlotState)
    (waiting left : List ℕ) : Type 0 where
  pub refused :
      IsRefusedAt stage (transmit_within (Some limit)) budget 1 (queue_at 1 old.console) old.memory new.memory
      old.console new.console waiting left
  pub is : new ≡ record old { memory = new.memory; console = new.console }

abbrev pub SendsWithin : {A : Type 0} → ℕ → Pause → Stage → Budget → SlotState → SlotState → List ℕ
    → List ℕ → Turn A → Type 0
SendsWithin limit pause stage budget old new waiting left (More next) =
    IsSentPiece limit stage budget progress.More old new waiting left
SendsWithin limit pause stage budget old new waiting left (Answered reply) =
    ((reply ≡ reply_of pause) × IsSentPiece limit stage budget progress.Done old new waiting left)
    ⊎ ((reply ≡ NoMemory) × IsUnsentPiece limit stage budget old new waiting left)

-- the pieces of the other services put out nothing
abbrev pub PieceBy : {A : Type 0} → Service → ℕ → Pause → Stage → Budget → SlotState → SlotState → List ℕ
    → List ℕ → Turn A → Type 0
PieceBy Transmit limit pause stage budget old new waiting left turn =
    SendsWithin limit pause stage budget old new waiting left turn
PieceBy service limit pause stage budget old new waiting left turn = ⊤

abbrev pub PieceWithin : {A : Type 0} → ℕ → Pause → Stage → Budget → SlotState → SlotState → List ℕ
    → List ℕ → Turn A → Type 0
PieceWithin limit pause stage budget old new waiting left turn =
    PieceBy pause.service limit pause stage budget old new waiting left turn

abbrev pub TurnWithin : {A : Type 0} → ℕ → Option Pause → EventKind A → Budget → SlotState → SlotState
    → List ℕ → List ℕ → Turn A → Type 0
TurnWithin limit (Some pause) what budget old new waiting left turn =
    PieceWithin limit pause First budget (readied what old) new waiting left turn
TurnWithin limit None what budget old new waiting left (Answered reply) =
    TakesWithin limit old what new waiting left reply
TurnWithin limit None what budget old new waiting left (More pause) = ⊤

-- How an event is decided whose service may pause, of a guest whose disk is of the image and of any, and how a
-- service that goes on is.
abbrev pub BeginsWithinOverImage : {A : Type 0} → ℕ → EventKind A → Budget → SlotState → SlotState → List ℕ
    → List ℕ → Turn A → Type 0
BeginsWithinOverImage limit what budget old new waiting left turn =
    TurnWithin limit (asked_over_image what old) what budget old new waiting left turn

abbrev pub BeginsWithin : {A : Type 0} → ℕ → EventKind A → Budget → SlotState → SlotState → List ℕ
    → List ℕ → Turn A → Type 0
BeginsWithin limit what budget old new waiting left turn =
    TurnWithin limit (asked what old) what budget old new waiting left turn

abbrev pub GoesOnWithin : {A : Type 0} → ℕ → Pause → Budget → SlotState → SlotState → List ℕ
    → List ℕ → Turn A → Type 0
GoesOnWithin limit pause budget old new waiting left turn =
    PieceWithin limit pause Next budget old new waiting left turn

-- And so how a turn is, by what its slot is to do.
abbrev pub DoesWithin : {A : Type 0} → ℕ → Work A → Budget → SlotState → SlotState → List ℕ
    → List ℕ → Turn A → Type 0
DoesWithin {A} limit (Begin what) budget old new waiting left turn =
    BeginsWithin limit what.now budget old new waiting left turn
DoesWithin {A} limit (InPlace what) budget old new waiting left turn =
    BeginsWithin {A = A} limit (event_in what) budget old new waiting left turn
DoesWithin {A} limit (Resume pause) budget old new waiting left turn =
    GoesOnWithin limit pause budget old new waiting left turn

-- two turns of a slot leave the same of it and of what waits of its output, and are answered or paused the same
pub record SameTurn {A : Type 0} (new new' : SlotState) (left left' : List ℕ) (turn turn' : Turn A) : Type 0 where
  pub state : new ≡ new'
  pub waiting : left ≡ left'
  pub answer : turn ≡ turn'
