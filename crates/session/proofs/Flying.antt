-- What is in flight of a slot's disks stays so, whatever is called, but for what the host says of it.
use Rattle.std.proofs.Common.{◌≡◌, inl, inr, ℕ, zero, suc, List, [], ◌∷◌, get_or, map, Option, Some, None, refl, sym, ◌∙◌, ap, subst}
use Rattle.std.specs.Prelude.{MatchOption}
use Rattle.std.specs.List.{slice_get}
use Rattle.std.specs.Option.{option_and_then}
use Rattle.std.proofs.lemmas.Bool.{cases_eq}
use Rattle.block_device.specs.Flights.{InFlight}
use Rattle.board.specs.declared.event.Event.{Event}
use Rattle.board.specs.declared.pause.Pause.{Pause}
use Rattle.board.specs.declared.pause.Turn.{Turn}
use Rattle.board.specs.declared.pause.Turn.TheVariants as turn
use Rattle.board.specs.declared.reply.Reply.{Reply}
use Rattle.board.specs.declared.slot_disk.SlotDisk.{SlotDisk}
use Rattle.board.specs.HostedDisks.{LeavesTagOf}
use Rattle.board.specs.Units.{in_flight_of}
use Rattle.board.specs.Image.{Health}
use Rattle.board.specs.Pausing.{Begins}
use Rattle.board.specs.Slot.{BoardSlot, SlotState, state_of}
use Rattle.board.specs.World.{KeepsOthers, MissingStep, SlotStep}
use Rattle.board.proofs.Alone.{get_set}
use Rattle.board.proofs.DiskPieces.{KeepsFlight, going_on_flies, pausing_flies}
use Rattle.board.proofs.Waiting.{outlasts}
use Rattle.session.specs.declared.response.Response.{Response}
use Rattle.session.specs.declared.response.Response.TheVariants.{Answered, More, Busy, Idle}
use Rattle.session.specs.Course.{IsCalled}
use Rattle.session.specs.Operations.{flight_at, flight_of}
use Rattle.session.specs.Pacing.{Call, GoOn, Handle, IfEvent, response_to, slot_in}
use Rattle.session.specs.Pausing.{ComesTo, IsTurn, IsWhole}
use Rattle.session.specs.Session.{IsStep, SessionState, world_of}
use Rattle.session.proofs.PacedCourses.{by_pause}
use Rattle.session.proofs.Suiting.{never_busy, never_idle}

module _ (disk : SlotDisk) (tag : ℕ) (here : InFlight) where
  -- ---- a slot as the board keeps it, and as its guest can see it

  abbrev seen_flight : SlotState → Option InFlight
  seen_flight state = get_or (in_flight_of disk state) tag None

  flight_there : (slots : List BoardSlot) (bytes : List ℕ) (slot : ℕ)
      → flight_at slot disk tag slots ≡ option_and_then seen_flight (slice_get (map (state_of bytes) slots) slot)
  flight_there [] bytes slot = refl
  flight_there (found ∷ slots) bytes zero = refl
  flight_there (found ∷ slots) bytes (suc slot) = flight_there slots bytes slot

  -- so where one slot is set to a state in which it is in flight, it is so there
  set_flies : (old new : SessionState) (slot : ℕ) (was now : SlotState) → slice_get (world_of old).slots slot ≡ Some was
      → slice_get (world_of new).slots slot ≡ Some now → (seen_flight was ≡ Some here → seen_flight now ≡ Some here)
      → flight_at slot disk tag old.slots ≡ Some here → flight_at slot disk tag new.slots ≡ Some here
  set_flies old new slot was now there then keeps flies =
      flight_there new.slots new.image slot ∙ ap (option_and_then seen_flight) then
      ∙ keeps (sym (ap (option_and_then seen_flight) there) ∙ sym (flight_there old.slots old.image slot) ∙ flies)

  -- ---- a turn

  turn_flies : {A : Type 0} {Comes : SlotState → Health → Health → SlotState → List ℕ → Turn A → Type 0}
      {Within : ℕ → SlotState → SlotState → List ℕ → List ℕ → Turn A → Type 0}
      (old : SessionState) (slot : ℕ) (response : Response A) (new : SessionState)
      (t : IsTurn Comes Within old slot response new) → KeepsFlight A disk tag here t.taken.state t.taken.after
      → flight_at slot disk tag old.slots ≡ Some here → flight_at slot disk tag new.slots ≡ Some here
  turn_flies old slot response new t keeps =
      set_flies old new slot t.taken.state t.taken.after t.taken.there
      (ap (λ (states : List SlotState). slice_get states slot) t.taken.slots
      ∙ get_set (world_of old).slots slot t.taken.state t.taken.after t.taken.there) keeps

  pausing : {A : Type 0} (old new : SessionState) (event : Event A) (o : Option (Option Pause))
      → ComesTo (Handle event) o old More new → flight_at event.slot disk tag old.slots ≡ Some here
      → flight_at event.slot disk tag new.slots ≡ Some here
  pausing old new event None comes = absurd (cc (comes.0))
  pausing {A} old new event (Some None) comes =
      turn_flies old event.slot More new comes.turn
      (pauses comes.turn.taken.state comes.turn.taken.after _ _ comes.turn.output comes.turn.turn comes.turn.told
      comes.turn.taken.comes)
    where
      pauses : (was now : SlotState) (before after : Health) (output : List ℕ) (t : Turn A) → More ≡ response_to t
          → Begins event.what old.budget was before after now output t → KeepsFlight A disk tag here was now
      pauses was now before after output (turn.Answered reply) told h = absurd (cc (told))
      pauses was now before after output (turn.More pause) told h =
          pausing_flies A disk tag here event.what old.budget was before after now output pause h
  pausing old new event (Some (Some pause)) comes = absurd (cc (comes.0))

  going_on : {A : Type 0} (old new : SessionState) (slot : ℕ) (response : Response A) (o : Option (Option Pause))
      → ComesTo (GoOn slot) o old response new → flight_at slot disk tag old.slots ≡ Some here
      → flight_at slot disk tag new.slots ≡ Some here
  going_on {A} old new slot response (Some (Some pause)) comes =
      turn_flies old slot response new comes
      (going_on_flies A disk tag here pause old.budget comes.taken.state _ _ comes.taken.after comes.output comes.turn
      comes.taken.comes)
  going_on old new slot response o comes = λ flies.
      ap (λ (s : SessionState). flight_at slot disk tag s.slots) comes.1 ∙ flies

  -- ---- a whole event

  step_flies : {A : Type 0} (old new : SessionState) (event : Event A) (told : Reply A) (o : Option SlotState)
      (h : IsStep old event told new) → slice_get (world_of old).slots event.slot ≡ o
      → LeavesTagOf disk tag event.what
      → MatchOption o (MissingStep (world_of old) event.slot h.answers.written (world_of new))
      (λ state. SlotStep (world_of old) event.slot state event.what h.answers.written (world_of new))
      → flight_at event.slot disk tag old.slots ≡ Some here → flight_at event.slot disk tag new.slots ≡ Some here
  step_flies old new event told None h none other step flies =
      let never : None ≡ Some here =
      sym (ap (option_and_then seen_flight) none) ∙ sym (flight_there old.slots old.image event.slot) ∙ flies in
      absurd (cc (never))
  step_flies old new event told (Some state) h there other step flies =
      set_flies old new event.slot state step.outcome.state there
      (ap (λ (states : List SlotState). slice_get states event.slot) step.slots
      ∙ get_set (world_of old).slots event.slot state step.outcome.state there)
      (λ taken. outlasts disk state tag here event.what (world_of old).health (world_of new).health step.outcome taken
      other step.given) flies

  own_flies : {A : Type 0} (old new : SessionState) (event : Event A) (response : Response A) (o : Option (Option Pause))
      → LeavesTagOf disk tag event.what → ComesTo (Handle event) o old response new → IsWhole old event response new
      → flight_at event.slot disk tag old.slots ≡ Some here → flight_at event.slot disk tag new.slots ≡ Some here
  own_flies old new event (Answered told) o other comes whole =
      step_flies old new event told (slice_get (world_of old).slots event.slot) whole refl other whole.answers.step
  own_flies old new event More o other comes whole = pausing old new event o comes
  own_flies old new event Busy (Some None) other comes whole =
      absurd (never_busy comes.turn.turn (sym comes.turn.told))
  own_flies old new event Idle (Some None) other comes whole =
      absurd (never_idle comes.turn.turn (sym comes.turn.told))
  own_flies old new event response o other comes whole = λ flies.
      ap (λ (s : SessionState). flight_at event.slot disk tag s.slots) comes.1 ∙ flies

  -- ---- a call

  -- the host says nothing by it that ends it
  abbrev IsOther : {A : Type 0} → ℕ → Call A → Type 0
  IsOther slot call = IfEvent call (λ event. event.slot ≡ slot → LeavesTagOf disk tag event.what)

  called_flies : {A : Type 0} (old new : SessionState) (call : Call A) (response : Response A) (slot : ℕ)
      → slot_in call ≡ slot → IsOther slot call → IsCalled old call response new
      → flight_at (slot_in call) disk tag old.slots ≡ Some here → flight_at (slot_in call) disk tag new.slots ≡ Some here
  called_flies old new (Handle event) response slot is other h =
      own_flies old new event response (slice_get old.paused event.slot) (other is) h.turn h.whole
  called_flies old new (GoOn own) response slot is other h =
      going_on old new own response (slice_get old.paused own) h

  -- a call keeps every slot but its own
  called_others : {A : Type 0} (old new : SessionState) (call : Call A) (response : Response A)
      (o : Option (Option Pause)) → ComesTo call o old response new → KeepsOthers (slot_in call) old.slots new.slots
  called_others old new (Handle event) response (Some None) h = h.turn.others
  called_others old new (GoOn slot) response (Some (Some pause)) h = h.others
  called_others old new call response o h = λ other differ. ap (λ (s : SessionState). slice_get s.slots other) h.1

  pub flies_on : {A : Type 0} (old new : SessionState) (call : Call A) (response : Response A) (slot : ℕ)
      → IsOther slot call → IsCalled old call response new → flight_at slot disk tag old.slots ≡ Some here
      → flight_at slot disk tag new.slots ≡ Some here
  flies_on old new call response slot other h flies =
      elim (cases_eq (slot_in call) slot) [
        | inl is ↦ subst (λ k. flight_at k disk tag new.slots ≡ Some here) is
            (called_flies old new call response slot is other h
            (subst (λ k. flight_at k disk tag old.slots ≡ Some here) (sym is) flies))
        | inr differs ↦ ap (λ (o : Option BoardSlot). option_and_then (flight_of disk tag) o)
            (called_others old new call response (slice_get old.paused (slot_in call))
            (by_pause old call response new h) slot (λ same. differs (sym same))) ∙ flies
      ]
