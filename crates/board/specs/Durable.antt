-- What a stop, as a loss of power, leaves of the guests' disks: between two events, and within one.
use Rattle.std.specs.Prelude.{◌≡◌, ℕ, List, map, MatchOption}
use Rattle.std.specs.List.{slice_get}
use Rattle.sector_cache.specs.Stop.{TouchesNothing}
use Rattle.block_device.specs.Extent.{TouchesExtent}
use Rattle.board.specs.Extent.{outside_of}
use Rattle.board.specs.Slot.{BoardSlot, state_of, whole_extent}
use Rattle.board.specs.World.{BoardState, World, extents_of}

-- What is left of the image is what can be seen of it: in each slot's sectors the bytes of that guest's disks,
-- and those outside all extents.
pub record IsLeftAsSeen (slots : List BoardSlot) (world : World) (left : List ℕ) : Type 0 where
  pub disks : map (state_of left) slots ≡ world.slots
  pub outside : outside_of (extents_of slots) left ≡ world.outside

-- An event of this slot touches nothing but its extent, or nothing where there is no such slot: whatever
-- fails, and wherever a stop cuts the event.
abbrev pub TouchesSlot : {I : Type 0} → (moment : I → ℕ) → (may_leave : I → List ℕ → Type 0)
    → (left_since : I → ℕ → List ℕ → Type 0) → (slot : ℕ) → (old new : BoardState I) → Type 0
TouchesSlot moment may_leave left_since slot old new =
    MatchOption (slice_get old.slots slot) (TouchesNothing moment may_leave left_since old.image new.image)
    (λ found. TouchesExtent moment may_leave left_since (whole_extent found) old.image new.image)
