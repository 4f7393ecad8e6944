-- What happens to a session, one thing after another, and what one guest has of it: its own events, as if it
-- were alone and none paused.
use Rattle.std.specs.Prelude.{◌≡◌, ◌≢◌, ℕ, ◌==◌, if◌then◌else◌, List, [], ◌∷◌, ◌++◌, map, take, drop, Some}
use Rattle.std.specs.List.{slice_get}
use Rattle.board.specs.declared.event.EventKind.{EventKind}
use Rattle.board.specs.declared.reply.Reply.{Reply}
use Rattle.board.specs.declared.reply.Reply.TheVariants.{NoMemory}
use Rattle.board.specs.declared.reply.Record.{Record}
use Rattle.board.specs.Machine.{RunsOnItsOwn}
use Rattle.board.specs.Slot.{SlotState}
use Rattle.board.specs.Steps.{LeadTo}
use Rattle.session.specs.declared.response.Response.{Response}
use Rattle.session.specs.declared.response.Response.TheVariants.{Answered, More, Busy, Idle}
use Rattle.session.specs.Line.{begun_by}
use Rattle.session.specs.Pacing.{Call, Handle, GoOn, PacedWorld, slot_in}
use Rattle.session.specs.Pausing.{IsCall, IsEventCall}
use Rattle.session.specs.Session.{KeepsOtherOutputs, SessionState, limit_of, output_of, world_of}
use Rattle.session.specs.Steps.{AreAnswered, Called, CourseStep, Took, after_step}

-- A call is answered so: by what is paused of its slot, and an event that is answered at once as a whole one.
abbrev pub IsCalled : {A : Type 0} → SessionState → Call A → Response A → SessionState → Type 0
IsCalled old (Handle event) response new = IsEventCall old event.slot event.what response new
IsCalled old (GoOn slot) response new = IsCall old (GoOn slot) response new

-- Something that happened to a session.
abbrev pub SessionStep : Type 0 → Type 0
SessionStep A = CourseStep (Call A) (Response A) SessionState

-- The first bytes of what a slot's console put out were taken, as many as found room, and nothing else
-- changed.
pub record IsTaken (old : SessionState) (slot room : ℕ) (bytes : List ℕ) (new : SessionState) : Type 0 where
  pub first : bytes ≡ take room (output_of slot old)
  pub left : output_of slot new ≡ drop room (output_of slot old)
  pub others : KeepsOtherOutputs slot old.outputs new.outputs
  pub limits : (slot : ℕ) → limit_of slot new ≡ limit_of slot old
  pub world : world_of new ≡ world_of old
  pub paused : new.paused ≡ old.paused
  pub budget : new.budget ≡ old.budget

abbrev pub Happens : {A : Type 0} → SessionState → SessionStep A → Type 0
Happens old (Called call response after) = IsCalled old call response after
Happens old (Took slot room bytes after) = IsTaken old slot room bytes after

-- these steps lead from one session to another
abbrev pub IsCourse : {A : Type 0} → SessionState → List (SessionStep A) → SessionState → Type 0
IsCourse old steps new = LeadTo Happens after_step old steps new

-- what can be seen of the board and its pauses
abbrev pub paced_world_of : SessionState → PacedWorld
paced_world_of session = record { world = world_of session; paused = session.paused }

-- ---- what one guest has of a course

-- What guest g does, in order: an event counts where it begins.
abbrev pub events_begun : {A : Type 0} → ℕ → List (SessionStep A) → List (EventKind A)
events_begun g [] = []
events_begun g (Called call response after ∷ steps) = begun_by g call response (events_begun g steps)
events_begun g (Took slot room bytes after ∷ steps) = events_begun g steps

-- What guest g is answered, in order: a reply stands where its event ends.
abbrev pub ended_by : {A : Type 0} → Response A → List (Reply A) → List (Reply A)
ended_by (Answered reply) rest = reply ∷ rest
ended_by More rest = rest
ended_by Busy rest = rest
ended_by Idle rest = rest

abbrev pub replies_ended : {A : Type 0} → ℕ → List (SessionStep A) → List (Reply A)
replies_ended g [] = []
replies_ended g (Called call response after ∷ steps) =
    if slot_in call == g then ended_by response (replies_ended g steps) else replies_ended g steps
replies_ended g (Took slot room bytes after ∷ steps) = replies_ended g steps

-- what was taken of guest g's output, one piece behind the other
abbrev pub output_taken : {A : Type 0} → ℕ → List (SessionStep A) → List ℕ
output_taken g [] = []
output_taken g (Called call response after ∷ steps) = output_taken g steps
output_taken g (Took slot room bytes after ∷ steps) =
    if slot == g then bytes ++ output_taken g steps else output_taken g steps

-- what these records put out, one behind the other
abbrev pub put_out : {A : Type 0} → List (Record A) → List ℕ
put_out [] = []
put_out (written ∷ records) = written.output ++ put_out records

-- no call for guest g was answered that room was wanting
abbrev pub HadRoom : {A : Type 0} → ℕ → List (SessionStep A) → Type 0
HadRoom {A} g steps = AreAnswered slot_in (λ (response : Response A). response ≢ Answered NoMemory) g steps

-- no service of guest g's was paused
abbrev pub NeverPauses : {A : Type 0} → ℕ → List (SessionStep A) → Type 0
NeverPauses {A} g steps = AreAnswered slot_in (λ (response : Response A). response ≢ More) g steps

-- Guest g, which was in this state, is answered what it would be answered alone where nothing pauses, its
-- console puts out what it would put out then, and its state afterwards is what it would be.
pub record RunsAlone {A : Type 0} (g : ℕ) (state : SlotState) (old : SessionState)
    (steps : List (SessionStep A))
    (new : SessionState) : Type 0 where
  pub records : List (Record A)
  pub last : SlotState
  pub own : RunsOnItsOwn g state (events_begun g steps) records last
  pub replies : replies_ended g steps ≡ map (λ written. written.reply) records
  pub output : output_of g old ++ put_out records ≡ output_taken g steps ++ output_of g new
  pub state_after : slice_get (world_of new).slots g ≡ Some last
