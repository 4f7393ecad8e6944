-- How a board lends a guest's memory.
use Rattle.std.specs.Prelude.{ℕ, Bool, List, Option, Some, None, slice_set}
use Rattle.std.specs.List.{slice_get}
use Rattle.std.specs.Borrow.{Lends, MutBor, Fml, Array, u8}
use Rattle.std.specs.declared.alloc.Allocator.{Ghosts}
use denote.RattleType.{RattleType}
use Rattle.guest_memory.specs.Memory.{stored, with_pages}
use Rattle.board.specs.Slot.{BoardSlot}
use Rattle.board.specs.World.{BoardState}
use Rattle.board.specs.contracts.slot.Slot.{the_row as slot_row}

-- a slot with these bytes in its memory, from this address on
abbrev pub with_bytes : ℕ → BoardSlot → List ℕ → BoardSlot
with_bytes addr slot bytes = record slot { memory = stored slot.memory addr bytes }

-- a slot the bits of whose memory's pages are these
abbrev pub with_page_bits : BoardSlot → List Bool → BoardSlot
with_page_bits slot bits = record slot { memory = with_pages bits slot.memory }

-- a slot, whose allocator is of type A, ends with the bytes last behind r
abbrev pub LendsBytes : (A : RattleType) → Ghosts A.Denot → MutBor BoardSlot → ℕ → MutBor (List ℕ) → Fml
LendsBytes A heap slot addr r = Lends (slot_row A heap) (Array u8 0) slot r (with_bytes addr slot.now)

-- slots of which this one was slot i: it has these bytes in its memory
abbrev pub put_back : ℕ → Option BoardSlot → ℕ → List ℕ → List BoardSlot → List BoardSlot
put_back i None addr bytes slots = slots
put_back i (Some found) addr bytes slots = slice_set slots i (with_bytes addr found bytes)

-- slots of which this one was slot i: the bits of its memory's pages are these
abbrev pub bits_in : ℕ → Option BoardSlot → List Bool → List BoardSlot → List BoardSlot
bits_in i None bits slots = slots
bits_in i (Some found) bits slots = slice_set slots i (with_page_bits found bits)

-- a board with these bits of the pages of slot i
abbrev pub with_slot_bits : {I : Type 0} → ℕ → BoardState I → List Bool → BoardState I
with_slot_bits i board bits = record board { slots = bits_in i (slice_get board.slots i) bits board.slots }

-- a board with these bytes in the memory of slot i
abbrev pub with_slot_bytes : {I : Type 0} → ℕ → ℕ → BoardState I → List ℕ → BoardState I
with_slot_bytes i addr board bytes =
    record board { slots = put_back i (slice_get board.slots i) addr bytes board.slots }
