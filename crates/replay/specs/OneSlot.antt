-- The one-slot machine behind a board that has one slot.
use Rattle.std.specs.Prelude.{◌≡◌, ℕ, ◌+◌, ◌*◌, ◌==◌, if◌then◌else◌, List, [], ◌∷◌, ◌++◌, take, drop}
use Rattle.block_device.specs.declared.extent.Extent.{Extent}
use Rattle.board.specs.declared.event.Event.{Event}
use Rattle.board.specs.declared.reply.Record.{Record}
use Rattle.board.specs.declared.spec.SlotSpec.{SlotSpec}
use Rattle.board.specs.Fault.{share}
use Rattle.board.specs.Line.{own_events}
use Rattle.board.specs.Machine.{RunsOnItsOwn}
use Rattle.board.specs.Slot.{SlotState, opened, state_of}
use Rattle.board.specs.World.{bad_slot}

-- the machine as it begins: a new slot, over an image of these bytes
abbrev pub machine : SlotSpec → List ℕ → SlotState
machine spec bytes = state_of bytes (opened spec)

-- The records of events of any slots, where these are those of slot 0 and no other slot is there.
abbrev pub with_missing : {A : Type 0} → List (Event A) → List (Record A) → List (Record A)
with_missing [] own = own
with_missing (event ∷ rest) own =
    if event.slot == 0 then take 1 own ++ with_missing rest (drop 1 own)
    else bad_slot event.slot ∷ with_missing rest own

-- bytes of an image with new ones in place of an extent's; those before it and after it are as they were
abbrev pub with_extent : List ℕ → Extent → List ℕ → List ℕ
with_extent bytes extent new = take (512 * extent.start) bytes
    ++ (new ++ drop (512 * (extent.start + extent.count)) bytes)

-- The board of this one slot did what the machine does with the events of slot 0: the records are the
-- machine's, with those of slots that aren't there among them, and the image holds the machine's extent and spare
-- sectors, if the slot has some of it, within the bytes that stood around them.
pub record IsMachine {A : Type 0} (spec : SlotSpec) (before after : List ℕ) (events : List (Event A))
    (records : List (Record A)) : Type 0 where
  pub own : List (Record A)
  pub last : SlotState
  pub ran : RunsOnItsOwn 0 (machine spec before) (own_events 0 events) own last
  pub told : records ≡ with_missing events own
  pub image : after ≡ with_extent before (share spec) (last.extent ++ last.spare_bytes)
