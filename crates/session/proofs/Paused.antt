-- An event that pauses: the service that it asks for, and what the first piece of that leaves.
use Rattle.std.proofs.Common.{◌≡◌, ℕ, zero, suc, Bool, true, false, List, [], ◌∷◌, length, map, Option, Some, None, refl, sym, ◌∙◌, ap, subst}
use Rattle.std.specs.Prelude.{if◌then◌else◌, is_none, IsSome}
use Rattle.std.specs.List.{slice_get}
use Rattle.std.specs.Option.{option_and_then, option_map}
use Rattle.std.proofs.lemmas.Option.{same_Some}
use Rattle.chain.specs.declared.budget.Budget.{Budget}
use Rattle.chain.specs.declared.budget.Progress.TheVariants as piece
use Rattle.mmio_window.specs.declared.stage.Stage.TheVariants.{First}
use Rattle.device_list.specs.Card.{receive_refusal}
use Rattle.device_list.specs.Device.{supply_taken}
use Rattle.device_list.specs.List.{card_at, has_more_sent_at, sent_by}
use Rattle.board.specs.declared.event.DeviceEvent.TheVariants.{Supply, Receive, DropSent}
use Rattle.board.specs.declared.event.EventKind.{EventKind}
use Rattle.board.specs.declared.event.EventKind.TheVariants.{Device, Input}
use Rattle.board.specs.declared.pause.Pause.{Pause}
use Rattle.board.specs.declared.pause.Turn.{Turn}
use Rattle.board.specs.declared.pause.Turn.TheVariants as turn
use Rattle.board.specs.Devices.{further_service}
use Rattle.board.specs.Image.{Health}
use Rattle.board.specs.Pausing.{Begins, IsPiece, TurnsTo, asked, asked_over_image, input_service, readied}
use Rattle.board.specs.Slot.{BoardSlot, SlotState, state_of}
use Rattle.board.specs.World.{MayGive}
use Rattle.board.proofs.FurtherPieces.{asking}
use Rattle.board.proofs.Lists.{get_set}
use Rattle.session.specs.declared.response.Response.{Response}
use Rattle.session.specs.declared.response.Response.TheVariants.{More}
use Rattle.session.specs.Pacing.{Handle, paused_at, response_to}
use Rattle.session.specs.Pausing.{ComesTo, IsBegun, IsCall, taken_at}
use Rattle.session.specs.Session.{SessionState, world_of}
use Rattle.session.proofs.Parts.{asks_freely}
use Rattle.session.specs.Devices.{sent_at, sent_count}

-- A slot in this state asked for this service by its event, whose first piece left the slot so.
pub record Pauses {A : Type 0} (old new : SessionState) (slot : ℕ) (what : EventKind A) : Type 0 where
  pub state : SlotState
  pub there : slice_get (world_of old).slots slot ≡ Some state
  pub after : SlotState
  pub left : slice_get (world_of new).slots slot ≡ Some after
  pub pause : Pause
  pub asks : asked_over_image what state ≡ Some pause
  pub before : Health
  pub later : Health
  pub output : List ℕ
  pub piece : IsPiece pause.service First old.budget piece.More (readied what state) before later after output
  pub paused : paused_at new.paused slot ≡ Some pause

-- the pause that a first turn leaves
record FirstPiece {A : Type 0} (what : EventKind A) (budget : Budget) (state : SlotState) (before later : Health)
    (after : SlotState) (output : List ℕ) (pause : Pause) : Type 0 where
  asks : asked_over_image what state ≡ Some pause
  piece : IsPiece pause.service First budget piece.More (readied what state) before later after output

first_piece : {A : Type 0} (o : Option Pause) (what : EventKind A) (budget : Budget) (state : SlotState)
    (before later : Health) (after : SlotState) (output : List ℕ) (pause : Pause) → asked what state ≡ o
    → TurnsTo (MayGive state what before later) o what budget state before later after output (turn.More pause)
    → FirstPiece what budget state before later after output pause
first_piece None what budget state before later after output pause is h = absurd h
first_piece {A} (Some asking) what budget state before later after output pause is h =
    subst (λ (p : Pause). FirstPiece what budget state before later after output p) (sym h.0)
    (record { asks = (asks_freely what state asking is).asks; piece = h.1 })

module _ {A : Type 0} (old new : SessionState) (slot : ℕ) (what : EventKind A) where
  begun : (is : slice_get old.paused slot ≡ Some None) (b : IsBegun (record { slot = slot; what = what }) old More new)
      (t : Turn A) → b.turn.turn ≡ t → More ≡ response_to t
      → Begins what old.budget b.turn.taken.state (world_of old).health (world_of new).health b.turn.taken.after
      b.turn.output t → Pauses old new slot what
  begun is b (turn.Answered reply) same told h = absurd (cc (told))
  begun is b (turn.More pause) same told h =
      let taken = b.turn.taken in
      let first = first_piece (asked what taken.state) what old.budget taken.state (world_of old).health
      (world_of new).health taken.after b.turn.output pause refl h in
      record {
        state = taken.state;
        there = taken.there;
        after = taken.after;
        left = ap (λ (states : List SlotState). slice_get states slot) taken.slots
            ∙ get_set (world_of old).slots slot taken.state taken.after taken.there;
        pause = pause;
        asks = first.asks;
        before = (world_of old).health;
        later = (world_of new).health;
        output = b.turn.output;
        piece = first.piece;
        paused = ap (λ (ps : List (Option Pause)). paused_at ps slot) b.turn.paused
            ∙ (rw same (ap (λ (o : Option (Option Pause)). option_and_then (λ (here : Option Pause). here) o)
            (get_set old.paused slot None (Some pause) is)));
      }

  pauses_at : (o : Option (Option Pause)) → slice_get old.paused slot ≡ o
      → ComesTo {A = A} (Handle (record { slot = slot; what = what })) o old More new → Pauses old new slot what
  pauses_at None is comes = absurd (cc (comes.0))
  pauses_at (Some (Some pause)) is comes = absurd (cc (comes.0))
  pauses_at (Some None) is comes = begun is comes comes.turn.turn refl comes.turn.told comes.turn.taken.comes

  pub pauses : (response : Response A) → response ≡ More
      → IsCall old (Handle (record { slot = slot; what = what })) response new → Pauses old new slot what
  pauses response more call =
      pauses_at (slice_get old.paused slot) refl
      (subst (λ (r : Response A). IsCall old (Handle (record { slot = slot; what = what })) r new) more call)

  -- ---- how many bytes were taken that were handed in

  taken_of : (p : Pauses old new slot what) → taken_at slot new ≡ p.pause.taken
  taken_of p = ap (λ (o : Option Pause). option_and_then (λ (pause : Pause). pause.taken) o) p.paused

-- an input's
pub input_takes : (A : Type 0) (old new : SessionState) (slot : ℕ) (bytes : List ℕ) → Pauses {A = A} old new slot (Input bytes)
    → IsSome (taken_at slot new)
input_takes A old new slot bytes p =
    let same = same_Some (input_service p.state.pending bytes) p.pause p.asks in
    rw (taken_of old new slot (Input bytes) p, ← same) refl

-- a supply's
supplied_by : (n : ℕ) (taken : Option ℕ) (pause : Pause)
    → option_map (λ taken. further_service n 0 (Some taken)) taken ≡ Some pause → IsSome pause.taken
supplied_by n None pause is = absurd (cc (is))
supplied_by n (Some taken) pause is = rw (← same_Some (further_service n 0 (Some taken)) pause is) refl

pub supply_takes : (A : Type 0) (old new : SessionState) (slot n : ℕ) (bytes : List ℕ)
    → Pauses {A = A} old new slot (Device n (Supply bytes)) → IsSome (taken_at slot new)
supply_takes A old new slot n bytes p =
    rw (taken_of old new slot (Device n (Supply bytes)) p)
    (supplied_by n (option_and_then (supply_taken bytes) (slice_get p.state.devices n)) p.pause p.asks)

-- and a frame's, which is taken whole
received_by : (n : ℕ) (frame : List ℕ) (found : Bool) (pause : Pause)
    → (if found then Some (further_service n 0 (Some (length frame))) else None) ≡ Some pause
    → pause.taken ≡ Some (length frame)
received_by n frame false pause is = absurd (cc (is))
received_by n frame true pause is =
    ap (λ (p : Pause). p.taken) (sym (same_Some (further_service n 0 (Some (length frame))) pause is))

pub frame_takes : (A : Type 0) (old new : SessionState) (slot n : ℕ) (frame : List ℕ)
    → Pauses {A = A} old new slot (Device n (Receive frame)) → taken_at slot new ≡ Some (length frame)
frame_takes A old new slot n frame p =
    taken_of old new slot (Device n (Receive frame)) p
    ∙ received_by n frame (is_none (receive_refusal frame (card_at n p.state.devices))) p.pause p.asks

pub frame_some : (A : Type 0) (old new : SessionState) (slot n : ℕ) (frame : List ℕ)
    → Pauses {A = A} old new slot (Device n (Receive frame)) → IsSome (taken_at slot new)
frame_some A old new slot n frame p = rw (frame_takes A old new slot n frame p) refl

-- and what was sent is dropped whole
dropped_by : (n : ℕ) (more : Bool) (sent : Option (List ℕ)) (pause : Pause)
    → (if more then None else option_map (λ sent. further_service n 1 (Some (length sent))) sent) ≡ Some pause
    → pause.taken ≡ Some (sent_count sent)
dropped_by n true sent pause is = absurd (cc (is))
dropped_by n false None pause is = absurd (cc (is))
dropped_by n false (Some sent) pause is =
    ap (λ (p : Pause). p.taken) (sym (same_Some (further_service n 1 (Some (length sent))) pause is))

-- what a driver sent, as its guest's slot is seen
pub seen_sent : (slots : List BoardSlot) (image : List ℕ) (slot n : ℕ) → sent_at slot n slots
    ≡ option_and_then (λ (state : SlotState). sent_by n state.devices) (slice_get (map (state_of image) slots) slot)
seen_sent [] image slot n = refl
seen_sent (s ∷ slots) image zero n = refl
seen_sent (s ∷ slots) image (suc slot) n = seen_sent slots image slot n

pub drop_takes : (A : Type 0) (old new : SessionState) (slot n : ℕ) → Pauses {A = A} old new slot (Device n DropSent)
    → taken_at slot new ≡ Some (sent_count (sent_at slot n old.slots))
drop_takes A old new slot n p =
    let same : sent_at slot n old.slots ≡ sent_by n p.state.devices =
    seen_sent old.slots old.image slot n
    ∙ ap (λ (o : Option SlotState). option_and_then (λ (state : SlotState). sent_by n state.devices) o) p.there in
    taken_of old new slot (Device n DropSent) p
    ∙ dropped_by n (has_more_sent_at n p.state.devices) (sent_by n p.state.devices) p.pause p.asks
    ∙ ap (λ (o : Option (List ℕ)). Some (sent_count o)) (sym same)

pub drop_some : (A : Type 0) (old new : SessionState) (slot n : ℕ) → Pauses {A = A} old new slot (Device n DropSent)
    → IsSome (taken_at slot new)
drop_some A old new slot n p = rw (drop_takes A old new slot n p) refl
