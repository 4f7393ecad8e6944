-- A guest that moves: it is saved on one board, and goes on in a slot of another.
use Rattle.std.specs.Prelude.{◌≡◌, ℕ, List, ◌++◌, map, take, Some}
use Rattle.std.specs.List.{slice_get}
use Rattle.device_list.specs.Waiting.{AreMadeAlike}
use Rattle.board.specs.declared.event.EventKind.TheVariants.{Restore}
use Rattle.board.specs.declared.reply.Record.{Record}
use Rattle.board.specs.declared.reply.Reply.TheVariants.{Done}
use Rattle.board.specs.Backing.{KeepsHost}
use Rattle.board.specs.Line.{Move, events_of, own_events, own_records, records_of}
use Rattle.board.specs.Machine.{RunsOnItsOwn}
use Rattle.board.specs.Saved.{IsSavedTo}
use Rattle.board.specs.Slot.{BoardSlot, SlotState, state_of}
use Rattle.board.specs.World.{World, Step}

-- The slot of this state has the bytes of the saved slot's memory and of its disk, which lay in an image of these bytes;
-- or the host serves it the disk that it served that one, on hold or not. Each further device is as that slot's was when it
-- was made, whatever waits in it.
pub record HasBytesOf (saved : BoardSlot) (bytes : List ℕ) (state : SlotState) : Type 0 where
  pub memory : state.memory ≡ saved.memory
  pub extent : state.extent ≡ (state_of bytes saved).extent
  pub spare : state.spare ≡ saved.spare
  pub spare_bytes : state.spare_bytes ≡ (state_of bytes saved).spare_bytes
  pub host : KeepsHost saved.host state.host
  pub devices : AreMadeAlike saved.devices state.devices

-- The guest of a saved slot moves to slot h of another board: what `save` wrote to the front of a buffer is restored there,
-- behind the bytes of its memory and its disk.
pub record MovesTo {A : Type 0} (h : ℕ) (saved : BoardSlot) (bytes : List ℕ) (old : World) (restore : Move A)
    : Type 0 where
  pub buffer : List ℕ
  pub text : List ℕ
  pub len : ℕ
  pub is_saved : IsSavedTo saved buffer text len
  pub state : SlotState
  pub there : slice_get old.slots h ≡ Some state
  pub has : HasBytesOf saved bytes state
  pub event_is : restore.event ≡ record { slot = h; what = Restore (take len text) }
  pub step : Step old restore.event restore.written restore.after
  pub done : restore.written.reply ≡ Done

-- the record of a slot as slot g would have it
abbrev pub as_of : {A : Type 0} → ℕ → Record A → Record A
as_of g written = record written { slot = g }

-- The guest was in slot g of one board through these moves, and then in slot h of another through those: together that is
-- one run of it on its own, from the state that it was first in, but for the slot's number in its records.
pub record RanOnBoth {A : Type 0} (g : ℕ) (state : SlotState) (moves : List (Move A)) (h : ℕ)
    (moves' : List (Move A))
    (new' : World) : Type 0 where
  pub last : SlotState
  pub own :
      RunsOnItsOwn g state (own_events g (events_of moves) ++ own_events h (events_of moves'))
      (own_records g (records_of moves) ++ map (as_of g) (own_records h (records_of moves'))) last
  pub state_after : slice_get new'.slots h ≡ Some last
