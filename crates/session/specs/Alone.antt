-- Each guest of a session, as its own calls decide it and nothing else does.
use Rattle.std.specs.Prelude.{◌≡◌, ℕ, List, [], ◌∷◌, map, take, drop, Some}
use Rattle.std.specs.List.{slice_get}
use Rattle.chain.specs.declared.budget.Budget.{Budget}
use Rattle.sector_cache.specs.Sector.{extent_of}
use Rattle.board.specs.declared.event.EventKind.{EventKind}
use Rattle.board.specs.Fault.{share}
use Rattle.board.specs.Slot.{SlotState}
use Rattle.board.specs.Steps.{IsAnsweredBy, own_steps}
use Rattle.board.specs.Within.{Seat, IsNextWithin}
use Rattle.session.specs.declared.guest.GuestSpec.{GuestSpec}
use Rattle.session.specs.declared.response.Response.{Response}
use Rattle.session.specs.declared.response.Response.TheVariants.{Answered, Idle}
use Rattle.session.specs.Course.{SessionStep}
use Rattle.session.specs.Pacing.{Call, Handle, GoOn, slot_in}
use Rattle.session.specs.Session.{SessionState, limit_of, new_session, output_of, world_of}
use Rattle.session.specs.Steps.{Answer, Asking, Does, Gave, Takes, Told, answer_of, asking_of, slot_of}

-- What a call is for its guest: an event, or that its paused service goes on.
pub data OwnCall (A : Type 0) : Type 0 where
  Begins : EventKind A → OwnCall A
  GoesOn : OwnCall A

abbrev pub own_call : {A : Type 0} → Call A → OwnCall A
own_call (Handle event) = Begins event.what
own_call (GoOn slot) = GoesOn

-- what was asked for guest g, in order, and what was answered
abbrev pub own_askings : {A : Type 0} → ℕ → List (SessionStep A) → List (Asking (OwnCall A))
own_askings g steps = map (asking_of own_call) (own_steps (slot_of slot_in) g steps)

abbrev pub own_answers : {A : Type 0} → ℕ → List (SessionStep A) → List (Answer (Response A))
own_answers g steps = map answer_of (own_steps (slot_of slot_in) g steps)

-- ---- the one-slot machine with its outlet

-- guest g in a session: what it sees, and what waits of its output
abbrev pub seat_of : ℕ → SlotState → SessionState → Seat
seat_of g state session = record { state = state; waiting = output_of g session }

-- What comes of what is asked for a guest that is alone with an outlet of this limit, and never paused.
abbrev pub IsNextAsked : {A : Type 0} → ℕ → Seat → Asking (OwnCall A) → Answer (Response A) → Seat → Type 0
IsNextAsked limit old (Does (Begins what)) (Told (Answered reply)) new = IsNextWithin limit old what reply new
IsNextAsked limit old (Does GoesOn) (Told response) new = (response ≡ Idle) × (new ≡ old)
IsNextAsked limit old (Takes room) (Gave bytes) new =
    (bytes ≡ take room old.waiting) × (new ≡ record old { waiting = drop room old.waiting })
IsNextAsked limit old asking answer new = ⊥

-- one after another
abbrev pub IsSeatCourse : {A : Type 0} → ℕ → Seat → List (Asking (OwnCall A))
    → List (Answer (Response A)) → Seat
    → Type 0
IsSeatCourse limit old askings answers last = IsAnsweredBy (IsNextAsked limit) old askings answers last

-- Guest g, which was in this state, is answered, gives out its output and is left as it would alone.
pub record IsSeatedAlone {A : Type 0} (g : ℕ) (state : SlotState) (old : SessionState)
    (steps : List (SessionStep A))
    (new : SessionState) : Type 0 where
  pub last : SlotState
  pub own :
      IsSeatCourse (limit_of g old) (seat_of g state old) (own_askings g steps) (own_answers g steps)
      (seat_of g last new)
  pub state_after : slice_get (world_of new).slots g ≡ Some last

-- ---- two sessions

-- Guest g of one session and guest h of another have seen the same: they were answered the same, the same
-- bytes of their output were taken, the same wait, and both are in the same state.
pub record SeeAlike {A : Type 0} (g : ℕ) (steps : List (SessionStep A)) (new : SessionState) (h : ℕ)
    (more : List (SessionStep A))
    (last : SessionState) : Type 0 where
  pub answers : own_answers g steps ≡ own_answers h more
  pub waiting : output_of g new ≡ output_of h last
  pub state : slice_get (world_of new).slots g ≡ slice_get (world_of last).slots h

-- the guest's part of an image: the bytes of its slot's sectors, the spare ones too, and none where the host serves its disk
abbrev pub part_of_image : GuestSpec → List ℕ → List ℕ
part_of_image guest image = extent_of image (share guest.slot).start (share guest.slot).count

-- the guest with its sectors at the image's front
abbrev pub at_front : GuestSpec → GuestSpec
at_front guest = record guest {
  slot = record guest.slot { extent = record guest.slot.extent { start = 0 } };
}

-- a new session with that guest alone, over its part of the image
abbrev pub new_session_alone : GuestSpec → List ℕ → Budget → SessionState
new_session_alone guest image budget = new_session (at_front guest ∷ []) (part_of_image guest image) budget
