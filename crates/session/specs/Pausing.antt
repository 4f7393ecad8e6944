-- A call for a slot of a session, by what is paused of the slot.
use Rattle.std.specs.Prelude.{⊤, ◌≡◌, ℕ, Option, Some, None, ◌++◌, List, length, slice_set, Result}
use Rattle.std.specs.List.{slice_get}
use Rattle.std.specs.Option.{option_and_then}
use Rattle.board.specs.declared.event.Event.{Event}
use Rattle.board.specs.declared.event.EventKind.{EventKind}
use Rattle.board.specs.declared.pause.Pause.{Pause}
use Rattle.board.specs.declared.pause.Turn.{Turn}
use Rattle.board.specs.declared.reply.Reply.TheVariants.{BadSlot}
use Rattle.board.specs.Image.{Health}
use Rattle.board.specs.Pausing.{Begins, GoesOn, HasLimit, SlotTurn}
use Rattle.board.specs.Slot.{SlotState}
use Rattle.board.specs.Within.{BeginsWithin, GoesOnWithin}
use Rattle.board.specs.World.{KeepsOthers, extents_of}
use Rattle.session.specs.declared.progress.Progress.{Progress}
use Rattle.session.specs.declared.response.Response.{Response}
use Rattle.session.specs.declared.response.Response.TheVariants.{Answered, More, Busy, Idle}
use Rattle.session.specs.Pacing.{Call, Handle, GoOn, paused_at, paused_by, response_to, slot_in}
use Rattle.session.specs.declared.refusal.Refusal.{Refusal}
use Rattle.session.specs.Answering.{went_on_to}
use Rattle.session.specs.Session.{IsStep, KeepsOtherOutputs, SessionState, limit_of, output_of, world_of}

-- The slot takes a turn: its event begins, or its service goes on. What it puts out stands behind what waits,
-- what waits and the limit decide it, and the turn leaves its service paused or not. Nothing else of the
-- session changes.
pub record IsTurn {A : Type 0} (Comes : SlotState → Health → Health → SlotState → List ℕ → Turn A → Type 0)
    (Within : ℕ → SlotState → SlotState → List ℕ → List ℕ → Turn A → Type 0) (old : SessionState) (slot : ℕ)
    (response : Response A) (new : SessionState) : Type 0 where
  pub turn : Turn A
  pub output : List ℕ
  pub block : ℕ
  pub console : ℕ
  pub taken : SlotTurn Comes (world_of old) slot turn output block console (world_of new)
  pub told : response ≡ response_to turn
  pub behind : output_of slot new ≡ output_of slot old ++ output
  pub paused : new.paused ≡ slice_set old.paused slot (paused_by turn)
  pub within :
      (found after : SlotState) → slice_get (world_of old).slots slot ≡ Some found →
      slice_get (world_of new).slots slot ≡ Some after →
      Within (limit_of slot old) found after (output_of slot old) (output_of slot new) turn
  pub others : KeepsOthers slot old.slots new.slots
  pub outputs : KeepsOtherOutputs slot old.outputs new.outputs
  pub extents : extents_of new.slots ≡ extents_of old.slots
  pub size : length new.image ≡ length old.image
  pub limits : (slot : ℕ) → limit_of slot new ≡ limit_of slot old
  pub budget : new.budget ≡ old.budget

-- An event of a slot of which nothing is paused begins. It pauses only where the budget has a limit.
pub record IsBegun {A : Type 0} (event : Event A) (old : SessionState) (response : Response A)
    (new : SessionState) : Type 0 where
  pub turn :
      IsTurn (Begins event.what old.budget)
      (λ limit found after. BeginsWithin limit event.what old.budget found after)
      old event.slot response new
  pub limited : response ≡ More → HasLimit old.budget

-- What a call comes to, by what is paused of its slot, if there is such a slot: one that waits for its
-- service is busy, and one that waits for none has nothing to go on with.
abbrev pub ComesTo : {A : Type 0} → Call A → Option (Option Pause) → SessionState → Response A
    → SessionState → Type 0
ComesTo call None old response new = (response ≡ Answered BadSlot) × (new ≡ old)
ComesTo (Handle event) (Some None) old response new = IsBegun event old response new
ComesTo (Handle event) (Some (Some pause)) old response new = (response ≡ Busy) × (new ≡ old)
ComesTo (GoOn slot) (Some None) old response new = (response ≡ Idle) × (new ≡ old)
ComesTo (GoOn slot) (Some (Some pause)) old response new =
    IsTurn (GoesOn pause old.budget) (λ limit found after. GoesOnWithin limit pause old.budget found after)
    old slot response new

abbrev pub IsCall : {A : Type 0} → SessionState → Call A → Response A → SessionState → Type 0
IsCall old call response new = ComesTo call (slice_get old.paused (slot_in call)) old response new

-- An event that is answered at once is a whole one: a step of the session.
abbrev pub IsWhole : {A : Type 0} → SessionState → Event A → Response A → SessionState → Type 0
IsWhole old event (Answered reply) new = IsStep old event reply new
IsWhole old event response new = ⊤

abbrev pub IsWholeCall : {A : Type 0} → SessionState → Call A → Response A → SessionState → Type 0
IsWholeCall old (Handle event) response new = IsWhole old event response new
IsWholeCall old (GoOn slot) response new = ⊤

-- An event of a slot is called: by what is paused of the slot, and as a whole one where it is answered at
-- once.
pub record IsEventCall {A : Type 0} (old : SessionState) (slot : ℕ) (what : EventKind A)
    (response : Response A)
    (new : SessionState) : Type 0 where
  pub turn : IsCall old (Handle (record { slot = slot; what = what })) response new
  pub whole : IsWhole old (record { slot = slot; what = what }) response new

-- An event of a slot is called, and what is told of it means the response.
pub record IsToldCall {A : Type 0} (old : SessionState) (slot : ℕ) (what : EventKind A)
    (Tells : Response A → Type 0)
    (new : SessionState) : Type 0 where
  pub response : Response A
  pub call : IsEventCall old slot what response new
  pub told : Tells response

-- The service of a slot goes on, and this is told of it.
pub record WentOn (A : Type 0) (old : SessionState) (slot : ℕ) (result : Result Progress Refusal)
    (new : SessionState) : Type 0 where
  pub response : Response A
  pub call : IsCall old (GoOn slot) response new
  pub told : result ≡ went_on_to response

-- how many bytes the event handed in that were taken, whose service is paused
abbrev pub taken_at : ℕ → SessionState → Option ℕ
taken_at slot session = option_and_then (λ pause. pause.taken) (paused_at session.paused slot)
