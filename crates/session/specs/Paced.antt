-- Each guest of a session whose services may pause and may find no room, as its own calls decide it.
use Rattle.std.specs.Prelude.{◌≡◌, ⊤, ℕ, List, ◌++◌, Option, Some, None, take, drop}
use Rattle.std.specs.List.{slice_get}
use Rattle.chain.specs.declared.budget.Budget.{Budget}
use Rattle.board.specs.declared.event.EventKind.{EventKind}
use Rattle.board.specs.declared.pause.Pause.{Pause}
use Rattle.board.specs.declared.pause.Turn.{Turn}
use Rattle.board.specs.Image.{Health}
use Rattle.board.specs.Pausing as pausing
use Rattle.board.specs.Slot.{SlotState}
use Rattle.board.specs.Steps.{IsAnsweredBy}
use Rattle.board.specs.Within.{BeginsWithin, GoesOnWithin, IsNextWithin}
use Rattle.session.specs.declared.response.Response.{Response}
use Rattle.session.specs.declared.response.Response.TheVariants.{Answered, Busy, Idle}
use Rattle.session.specs.Alone.{Begins, GoesOn, OwnCall, SeeAlike, own_answers, own_askings}
use Rattle.session.specs.Course.{SessionStep}
use Rattle.session.specs.Pacing.{paused_by, response_to}
use Rattle.session.specs.Session.{SessionState, limit_of, output_of, world_of}
use Rattle.session.specs.Steps.{Answer, Asking, Does, Gave, Takes, Told}

-- What one guest can see, the bytes of its output that wait, and its service that is paused, if one is.
pub record PacedSeat : Type 0 where
  pub state : SlotState
  pub waiting : List ℕ
  pub paused : Option Pause

-- It takes a turn, in which no call of the image fails.
pub record TakesTurn {A : Type 0} (Comes : SlotState → Health → Health → SlotState → List ℕ → Turn A → Type 0)
    (Within : SlotState → SlotState → List ℕ → List ℕ → Turn A → Type 0) (old : PacedSeat) (response : Response A)
    (new : PacedSeat) : Type 0 where
  pub turn : Turn A
  pub output : List ℕ
  pub before : Health
  pub after : Health
  pub stood : after.failures ≡ before.failures
  pub comes : Comes old.state before after new.state output turn
  pub within : Within old.state new.state old.waiting new.waiting turn
  pub told : response ≡ response_to turn
  pub behind : new.waiting ≡ old.waiting ++ output
  pub paused : new.paused ≡ paused_by turn

-- an event that is answered at once is a whole one
abbrev pub IsWholeAt : {A : Type 0} → ℕ → PacedSeat → EventKind A → Response A → PacedSeat → Type 0
IsWholeAt limit old what (Answered reply) new =
    IsNextWithin limit (record { state = old.state; waiting = old.waiting }) what reply
    (record { state = new.state; waiting = new.waiting })
IsWholeAt limit old what response new = ⊤

-- what a call comes to, by what of the guest is paused
abbrev pub ComesOf : {A : Type 0} → Budget → ℕ → OwnCall A → Option Pause → PacedSeat → Response A → PacedSeat → Type 0
ComesOf budget limit (Begins what) None old response new =
    TakesTurn (pausing.Begins what budget)
    (λ was now waiting left turn. BeginsWithin limit what budget was now waiting left turn) old response new
    × IsWholeAt limit old what response new
ComesOf budget limit (Begins what) (Some pause) old response new = (response ≡ Busy) × (new ≡ old)
ComesOf budget limit GoesOn None old response new = (response ≡ Idle) × (new ≡ old)
ComesOf budget limit GoesOn (Some pause) old response new =
    TakesTurn (pausing.GoesOn pause budget)
    (λ was now waiting left turn. GoesOnWithin limit pause budget was now waiting left turn) old response new

-- What comes of what is asked for a guest that is alone with an outlet of this limit, and this budget.
abbrev pub IsNextPaced : {A : Type 0} → Budget → ℕ → PacedSeat → Asking (OwnCall A) → Answer (Response A)
    → PacedSeat → Type 0
IsNextPaced budget limit old (Does call) (Told response) new = ComesOf budget limit call old.paused old response new
IsNextPaced budget limit old (Takes room) (Gave bytes) new =
    (bytes ≡ take room old.waiting) × (new ≡ record old { waiting = drop room old.waiting })
IsNextPaced budget limit old asking answer new = ⊥

abbrev pub IsPacedCourse : {A : Type 0} → Budget → ℕ → PacedSeat → List (Asking (OwnCall A))
    → List (Answer (Response A)) → PacedSeat → Type 0
IsPacedCourse budget limit old askings answers last = IsAnsweredBy (IsNextPaced budget limit) old askings answers last

-- guest g in a session, in this state with this of it paused
abbrev pub paced_seat : ℕ → SlotState → Option Pause → SessionState → PacedSeat
paced_seat g state paused session = record { state = state; waiting = output_of g session; paused = paused }

-- It is answered, gives out its output and is left as it would alone, paused or not.
pub record IsPacedAlone {A : Type 0} (g : ℕ) (state : SlotState) (paused : Option Pause) (old : SessionState)
    (steps : List (SessionStep A)) (new : SessionState) : Type 0 where
  pub last : SlotState
  pub left : Option Pause
  pub own :
      IsPacedCourse old.budget (limit_of g old) (paced_seat g state paused old) (own_askings g steps)
      (own_answers g steps) (paced_seat g last left new)
  pub state_after : slice_get (world_of new).slots g ≡ Some last
  pub paused_after : slice_get new.paused g ≡ Some left

-- ---- two sessions

-- Guest g of one session and guest h of another have seen the same, and the same of them is paused.
pub record SeePacedAlike {A : Type 0} (g : ℕ) (steps : List (SessionStep A)) (new : SessionState) (h : ℕ)
    (more : List (SessionStep A)) (last : SessionState) : Type 0 where
  pub seen : SeeAlike g steps new h more last
  pub paused : slice_get new.paused g ≡ slice_get last.paused h
