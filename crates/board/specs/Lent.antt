-- Boards whose memories' bytes a host lends: one run of bytes for each region of all slots, in the slots'
-- order and in each slot in the regions' order.
use Rattle.std.specs.Prelude.{◌≡◌, ℕ, ⊤, List, [], ◌∷◌, length, drop, map}
use Rattle.std.specs.List.{flat_map}
use Rattle.guest_memory.specs.declared.spec.RegionSpec.{RegionSpec}
use Rattle.guest_memory.specs.Memory.{Memory}
use Rattle.guest_memory.specs.Regions.{Region, memory_of}
use Rattle.board.specs.declared.spec.SlotSpec.{SlotSpec}
use Rattle.board.specs.Slot.{BoardSlot, opened}

-- the regions of all slots, in their order
abbrev pub all_regions : List SlotSpec → List RegionSpec
all_regions slots = flat_map (λ spec. spec.regions) slots

-- there are bytes for each region, as many as it has
abbrev pub AreBytesOf : List SlotSpec → List (List ℕ) → Type 0
AreBytesOf slots bytes = map (λ run. length run) bytes ≡ map (λ region. region.len) (all_regions slots)

-- the first of the bytes are those of these regions
abbrev pub BeginWith : List RegionSpec → List (List ℕ) → Type 0
BeginWith [] bytes = ⊤
BeginWith (region ∷ regions) [] = ⊥
BeginWith (region ∷ regions) (run ∷ bytes) = (length run ≡ region.len) × BeginWith regions bytes

-- these regions with the first of the bytes, one after another
abbrev pub with_bytes : List RegionSpec → List (List ℕ) → List Region
with_bytes [] bytes = []
with_bytes (region ∷ regions) [] = []
with_bytes (region ∷ regions) (run ∷ bytes) =
    record { base = region.base; bytes = run } ∷ with_bytes regions bytes

-- what is made of each slot and its memory, where each slot takes the next of the bytes
abbrev pub made_over : {X : Type 0} → (SlotSpec → Memory → X) → List SlotSpec → List (List ℕ) → List X
made_over made [] bytes = []
made_over made (spec ∷ slots) bytes =
    made spec (memory_of (with_bytes spec.regions bytes))
    ∷ made_over made slots (drop (length spec.regions) bytes)

-- a slot of a new board over this memory, which else is one over zeros
abbrev pub opened_over : SlotSpec → Memory → BoardSlot
opened_over spec memory = record (opened spec) { memory = memory }
