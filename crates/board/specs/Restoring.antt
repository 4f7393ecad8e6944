-- A restore as an event of a slot: what its guest finds that takes up a snapshot.
use Rattle.std.specs.Prelude.{◌≡◌, ◌⊎◌, ℕ, Bool, true, false, List, Ok, Err, Result}
use Rattle.device_list.specs.List.{are_at_work}
use Rattle.board.specs.declared.reply.Reply.{Reply}
use Rattle.board.specs.declared.reply.Reply.TheVariants.{BadSlot, BadState, Busy, Done}
use Rattle.board.specs.declared.saved.RestoreFault.{RestoreFault}
use Rattle.board.specs.declared.saved.RestoreRefusal.{RestoreRefusal}
use Rattle.board.specs.declared.saved.RestoreRefusal.TheVariants as refusal
use Rattle.board.specs.Image.{Health, sectors_of}
use Rattle.board.specs.Outcome.{Outcome, does, replies}
use Rattle.board.specs.Saved.{IsCauseOf, IsRestored}
use Rattle.board.specs.Slot.{BoardSlot, SlotState}

-- a slot in this state, on a disk of its own
abbrev pub slot_in : SlotState → BoardSlot
slot_in state = record {
  memory = state.memory;
  extent = record { start = 0; count = sectors_of state.extent };
  spare = state.spare;
  host = state.host;
  read_only = state.read_only;
  identity = state.identity;
  block = state.block;
  console = state.console;
  pending = state.pending;
  cols = state.cols;
  rows = state.rows;
  devices = state.devices;
  disturbed = false;
}

-- The slot takes up the snapshot that these bytes are; the bytes of its disks stay.
pub record IsTakenUp (state : SlotState) (bytes : List ℕ) (new : SlotState) : Type 0 where
  pub restored : IsRestored (slot_in state) bytes (slot_in new)
  pub extent : new.extent ≡ state.extent
  pub spare : new.spare_bytes ≡ state.spare_bytes

-- The bytes are no snapshot that the slot takes up.
pub record IsNotTakenUp (state : SlotState) (bytes : List ℕ) : Type 0 where
  pub why : RestoreFault
  pub cause : IsCauseOf (slot_in state) bytes why

-- What comes of a restore: the slot takes up the snapshot, or nothing changes.
abbrev pub IsRestoring : {A : Type 0} → SlotState → List ℕ → Outcome A → Type 0
IsRestoring state bytes outcome =
    (IsTakenUp state bytes outcome.state × (outcome ≡ does outcome.state))
    ⊎ (IsNotTakenUp state bytes × (outcome ≡ replies state BadState))

-- The same, by whether anything is in flight of a further disk: then it waits, and nothing changes.
abbrev pub RestoresUnless : {A : Type 0} → Bool → SlotState → List ℕ → Outcome A → Type 0
RestoresUnless true state bytes outcome = outcome ≡ replies state Busy
RestoresUnless false state bytes outcome = IsRestoring state bytes outcome

-- And an image has no part in it.
pub record Restores {A : Type 0} (state : SlotState) (bytes : List ℕ) (before after : Health)
    (outcome : Outcome A) : Type 0 where
  pub alike : RestoresUnless (are_at_work state.devices) state bytes outcome
  pub image : after ≡ before

-- what the event is answered of a slot that is there
abbrev pub taken_up_reply : {A : Type 0} → Result (Unit {0}) RestoreFault → Reply A
taken_up_reply (Ok done) = Done
taken_up_reply (Err why) = BadState

-- why a slot that is there isn't restored
abbrev pub refusal_of : Result (Unit {0}) RestoreFault → Result (Unit {0}) RestoreRefusal
refusal_of (Ok done) = Ok done
refusal_of (Err why) = Err (refusal.Fault why)

-- what a restore by a call is answered
abbrev pub restore_reply : {A : Type 0} → Result (Unit {0}) RestoreRefusal → Reply A
restore_reply (Ok done) = Done
restore_reply (Err refusal.BadSlot) = BadSlot
restore_reply (Err refusal.Busy) = Busy
restore_reply (Err (refusal.Fault why)) = BadState
