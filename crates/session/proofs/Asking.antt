-- When a call asks the host for something.
use Rattle.std.proofs.Common.{◌≡◌, ◌≢◌, ◌↔◌, inl, inr, ℕ, zero, suc, Bool, true, false, List, [], ◌∷◌, map, Option, Some, None, refl, sym, ◌∙◌, ap, subst}
use Rattle.std.specs.Prelude.{IfOk, IsTrue, Result, Ok, Err}
use Rattle.std.specs.List.{slice_get}
use Rattle.std.specs.Option.{option_and_then, option_map}
use Rattle.chain.specs.declared.budget.Budget.{Budget}
use Rattle.chain.specs.declared.budget.Progress.{Progress as Piece}
use Rattle.chain.specs.declared.budget.Progress.TheVariants as piece
use Rattle.mmio_window.specs.declared.stage.Stage.{Stage}
use Rattle.mmio_window.specs.declared.stage.Stage.TheVariants.{First, Next}
use Rattle.board.specs.declared.event.Event.{Event}
use Rattle.board.specs.declared.event.EventKind.{EventKind}
use Rattle.board.specs.declared.pause.Pause.{Pause}
use Rattle.board.specs.declared.pause.Service.{Service}
use Rattle.board.specs.declared.pause.Service.TheVariants.{Block, Receive, Transmit, Further}
use Rattle.board.specs.declared.pause.Turn.{Turn}
use Rattle.board.specs.declared.pause.Turn.TheVariants as turn
use Rattle.board.specs.declared.reply.Reply.TheVariants as reply
use Rattle.block_device.specs.declared.device.BlockDevice.{BlockDevice}
use Rattle.block_device.specs.Tags.{taken_bits}
use Rattle.hosted_disk.specs.Disk.{HostedDisk}
use Rattle.board.specs.Backing.{tags_in}
use Rattle.board.specs.declared.slot_disk.SlotDisk.TheVariants.{Own}
use Rattle.board.specs.Image.{Health}
use Rattle.board.specs.ImageDisks.{image_served}
use Rattle.board.specs.Pausing as pausing
use Rattle.board.specs.Pausing.{Begins, GoesOnBy, IsPiece, IsPieceAtDevice, TurnsTo, asked, is_hosts, readied}
use Rattle.board.specs.Slot.{BoardSlot, SlotState, state_of}
use Rattle.board.specs.World.{MayGive}
use Rattle.board.proofs.Lists.{get_set}
use Rattle.session.specs.declared.progress.Progress.{Progress}
use Rattle.session.specs.declared.progress.Progress.TheVariants as progress
use Rattle.session.specs.declared.refusal.Refusal.{Refusal}
use Rattle.session.specs.declared.response.Response.{Response}
use Rattle.session.specs.declared.response.Response.TheVariants.{Answered, More, Busy}
use Rattle.session.specs.Answering.{Means, served_response, went_on_to}
use Rattle.session.specs.Operations.{HasAsked}
use Rattle.session.specs.Pacing.{GoOn, Handle, response_to}
use Rattle.session.specs.Pausing.{ComesTo, IsCall, IsTurn, WentOn}
use Rattle.session.specs.Session.{SessionState, world_of}
use Rattle.session.proofs.Parts.{readied_host}

-- ---- a piece of a service keeps who has the disk, and what is in flight

piece_host : (service : Service) (stage : Stage) (budget : Budget) (came : Piece) (old : SlotState)
    (before after : Health) (new : SlotState) (output : List ℕ)
    → IsPiece service stage budget came old before after new output → new.host ≡ old.host
piece_host Block stage budget came old before after new output (inl h) =
    ap (λ (s : SlotState). s.host) h.piece.is
piece_host Block stage budget came old before after new output (inr h) =
    ap (λ (s : SlotState). s.host) h.piece.is
piece_host Receive stage budget came old before after new output h = ap (λ (s : SlotState). s.host) h.is
piece_host Transmit stage budget came old before after new output h = ap (λ (s : SlotState). s.host) h.is
piece_host (Further n q) stage budget came old before after new output h = at_device (image_served (Further n q) old) h
  where
    at_device : (found : Option BlockDevice) → IsPieceAtDevice found n q stage budget came old before after new output
        → new.host ≡ old.host
    at_device None h = ap (λ (s : SlotState). s.host) h.is
    at_device (Some disk) (inl h) = ap (λ (s : SlotState). s.host) h.0.serves.is
    at_device (Some disk) (inr h) = ap (λ (s : SlotState). s.host) h.0.serves.is

comes_host : {A : Type 0} (pause : Pause) (stage : Stage) (budget : Budget) (old : SlotState)
    (before after : Health) (new : SlotState) (output : List ℕ) (t : Turn A)
    → pausing.ComesTo pause stage budget old before after new output t → new.host ≡ old.host
comes_host pause stage budget old before after new output (turn.Answered reply) (inl (done, h)) =
    piece_host pause.service stage budget piece.Done old before after new output h
comes_host pause stage budget old before after new output (turn.Answered reply) (inr (lacks, (is, h))) =
    ap (λ (s : SlotState). s.host) h.is
comes_host pause stage budget old before after new output (turn.More next) (is, h) =
    piece_host pause.service stage budget piece.More old before after new output h

goes_host : {A : Type 0} (hosts : Bool) (pause : Pause) (budget : Budget) (old : SlotState)
    (before after : Health) (new : SlotState) (output : List ℕ) (t : Turn A)
    → GoesOnBy hosts pause budget old before after new output t → new.host ≡ old.host
goes_host true pause budget old before after new output t h = ap (λ (s : SlotState). s.host) h.same
goes_host false pause budget old before after new output t h =
    comes_host pause Next budget old before after new output t h

paused_host : {A : Type 0} (o : Option Pause) (what : EventKind A) (budget : Budget) (old : SlotState)
    (before after : Health) (new : SlotState) (output : List ℕ) (pause : Pause)
    → TurnsTo (MayGive old what before after) o what budget old before after new output (turn.More pause)
    → new.host ≡ old.host
paused_host None what budget old before after new output pause h = absurd h
paused_host {A} (Some asks) what budget old before after new output pause h =
    comes_host {A = A} asks First budget (readied what old) before after new output (turn.More pause) h
    ∙ readied_host what old

-- ---- what is said of a slot by who has its disk, and what is in flight

module _ {X : Type 0} (f : Option HostedDisk → Option X) where
  abbrev pub said_at : ℕ → List BoardSlot → Option X
  said_at slot slots = option_and_then (λ (found : BoardSlot). f found.host) (slice_get slots slot)

  abbrev said_of : Option SlotState → Option X
  said_of o = option_and_then (λ (state : SlotState). f state.host) o

  pub seen_at : (slots : List BoardSlot) (bytes : List ℕ) (h : ℕ)
      → said_at h slots ≡ said_of (slice_get (map (state_of bytes) slots) h)
  seen_at [] bytes h = refl
  seen_at (s ∷ slots) bytes zero = refl
  seen_at (s ∷ slots) bytes (suc h) = seen_at slots bytes h

  said_same : (now was : SlotState) → now.host ≡ was.host → said_of (Some now) ≡ said_of (Some was)
  said_same now was is = ap f is

  -- a turn that keeps both keeps it
  turn_keeps : {A : Type 0} {Comes : SlotState → Health → Health → SlotState → List ℕ → Turn A → Type 0}
      {Within : ℕ → SlotState → SlotState → List ℕ → List ℕ → Turn A → Type 0}
      (old : SessionState) (slot : ℕ) (response : Response A) (new : SessionState)
      (t : IsTurn Comes Within old slot response new) → t.taken.after.host ≡ t.taken.state.host
      → said_at slot new.slots ≡ said_at slot old.slots
  turn_keeps old slot response new t kept =
      seen_at new.slots new.image slot
      ∙ ap said_of (ap (λ (states : List SlotState). slice_get states slot) t.taken.slots
      ∙ get_set (world_of old).slots slot t.taken.state t.taken.after t.taken.there)
      ∙ said_same t.taken.after t.taken.state kept
      ∙ ap said_of (sym t.taken.there) ∙ sym (seen_at old.slots old.image slot)

  -- so does an event that pauses
  pub pausing_keeps : {A : Type 0} (old new : SessionState) (event : Event A) (o : Option (Option Pause))
      → ComesTo (Handle event) o old More new → said_at event.slot new.slots ≡ said_at event.slot old.slots
  pausing_keeps old new event None comes = absurd (cc (comes.0))
  pausing_keeps {A} old new event (Some None) comes =
      turn_keeps old event.slot More new comes.turn
      (pauses comes.turn.taken.state comes.turn.taken.after _ _ comes.turn.output comes.turn.turn
      comes.turn.told comes.turn.taken.comes)
    where
      pauses : (was now : SlotState) (before after : Health) (output : List ℕ) (t : Turn A)
          → More ≡ response_to t → Begins event.what old.budget was before after now output t
          → now.host ≡ was.host
      pauses was now before after output (turn.Answered reply) told h = absurd (cc (told))
      pauses was now before after output (turn.More pause) told h =
          paused_host (asked event.what was) event.what old.budget was before after now output pause h
  pausing_keeps old new event (Some (Some pause)) comes = absurd (cc (comes.0))

  -- and a service that goes on
  pub going_on_keeps : {A : Type 0} (old new : SessionState) (slot : ℕ) (response : Response A)
      (o : Option (Option Pause)) → ComesTo (GoOn slot) o old response new
      → said_at slot new.slots ≡ said_at slot old.slots
  going_on_keeps old new slot response (Some (Some pause)) comes =
      turn_keeps old slot response new comes
      (goes_host (is_hosts comes.taken.state.host pause.service) pause old.budget comes.taken.state _ _
      comes.taken.after comes.output comes.turn comes.taken.comes)
  going_on_keeps old new slot response o comes = ap (λ (s : SessionState). said_at slot s.slots) comes.1

-- the tags that are in flight
abbrev taken_of : Option HostedDisk → Option ℕ
taken_of host = Some (taken_bits (tags_in host))

taken_said : (o : Option BoardSlot) → option_map (λ (found : BoardSlot). taken_bits (tags_in found.host)) o
    ≡ option_and_then (λ (found : BoardSlot). taken_of found.host) o
taken_said None = refl
taken_said (Some found) = refl

-- where they stay nothing was asked for
same_asks : (slot : ℕ) (old new : SessionState)
    → said_at taken_of slot new.slots ≡ said_at taken_of slot old.slots → HasAsked slot Own old new → ⊥
same_asks slot old new same asks =
    asks (taken_said (slice_get new.slots slot) ∙ same ∙ sym (taken_said (slice_get old.slots slot)))

pub pausing_asks : {A : Type 0} (old new : SessionState) (slot : ℕ) (what : EventKind A)
    (response : Response A) → IsCall old (Handle (record { slot = slot; what = what })) response new
    → response ≡ More → HasAsked slot Own old new → ⊥
pausing_asks {A} old new slot what response call is asks =
    same_asks slot old new
    (pausing_keeps taken_of old new (record { slot = slot; what = what }) (slice_get old.paused slot)
    (subst (λ (r : Response A). IsCall old (Handle (record { slot = slot; what = what })) r new) is call)) asks

-- ---- what a write and what the host says are answered

pub asks_where : {A : Type 0} (response : Response A) (r : Result Progress Refusal) (asks : Bool) (P : Type 0)
    → IfOk r (λ came. (came ≡ progress.Asks) ↔ (IsTrue asks × (response ≢ More)))
    → (IsTrue asks ↔ P) → (response ≡ More → P → ⊥) → IfOk r (λ came. (came ≡ progress.Asks) ↔ P)
asks_where response (Ok came) asks P says same never =
    (λ is. same.0 ((says.0 is).0), λ p. says.1 (same.1 p, λ more. never more p))
asks_where response (Err why) asks P says same never = tt

-- and so is one whose service may pause while operations begin
pub asks_unless : {A : Type 0} (response : Response A) (r : Result Progress Refusal) (asks : Bool) (P : Type 0)
    → IfOk r (λ came. (came ≡ progress.Asks) ↔ (IsTrue asks × (response ≢ More)))
    → Means served_response r response → IsTrue asks ↔ P
    → IfOk r (λ came. (came ≡ progress.Asks) ↔ (P × (came ≢ progress.More)))
asks_unless response (Ok progress.Done) asks P says told same =
    (λ is. absurd (cc (is)), λ p. says.1 (same.1 p.0, λ more. cc (told, more)))
asks_unless response (Ok progress.More) asks P says told same = (λ is. absurd (cc (is)), λ p. absurd (p.1 refl))
asks_unless response (Ok progress.Asks) asks P says told same =
    (λ is. (same.0 ((says.0 refl).0), λ more. cc (more)), λ p. refl)
asks_unless response (Err why) asks P says told same = tt

-- the tags that a call found in flight, and left so, say whether something began
pub asked_where : (before after old new : Option ℕ) (asks : Bool) → before ≡ old → after ≡ new
    → IsTrue asks ↔ (after ≢ before) → IsTrue asks ↔ (new ≢ old)
asked_where before after old new asks was now says = rw (was, now) at says

-- ---- a service that goes on

never_asks : {A : Type 0} (response : Response A) (P : Type 0) → (P → ⊥)
    → IfOk (went_on_to response) (λ came. (came ≡ progress.Asks) ↔ P)
never_asks (Answered reply.BadSlot) P never = tt
never_asks (Answered reply.NoMemory) P never = tt
never_asks Busy P never = tt
never_asks response P never = (λ is. absurd (cc (is)), λ p. absurd (never p))

pub going_on_asks : {A : Type 0} (old new : SessionState) (slot : ℕ) (r : Result Progress Refusal)
    → WentOn A old slot r new → IfOk r (λ came. (came ≡ progress.Asks) ↔ HasAsked slot Own old new)
going_on_asks {A} old new slot r h =
    subst (λ (x : Result Progress Refusal). IfOk x (λ came. (came ≡ progress.Asks) ↔ HasAsked slot Own old new))
    (sym h.told)
    (never_asks h.response (HasAsked slot Own old new) (λ asks. same_asks slot old new
    (going_on_keeps taken_of old new slot h.response (slice_get old.paused slot) h.call) asks))
