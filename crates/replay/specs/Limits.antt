-- What a trace may describe, where a board may have more.
use Rattle.std.specs.Prelude.{ℕ, ◌^◌, ◌≤◌, List, [], ◌∷◌, nat_lt, if◌then◌else◌}
use Rattle.board.specs.declared.spec.SlotSpec.{SlotSpec}
use Rattle.guest_memory.specs.declared.spec.RegionSpec.{RegionSpec}
use Rattle.guest_memory.specs.Faults.{size_of}
use Rattle.trace.specs.declared.format.Format.{Format}
use Rattle.trace.specs.declared.format.Format.TheVariants.{Plain, Extended}

-- how many bytes the regions of a guest's memory have together at most, in a format
abbrev pub most_memory : Format → ℕ
most_memory (Plain version) = 2 ^ 28
most_memory Extended = 2 ^ 32

abbrev pub IsSmallMemory : Format → SlotSpec → Type 0
IsSmallMemory format spec = size_of spec.regions ≤ most_memory format

-- a region without a byte, which no board takes
abbrev pub no_memory : List RegionSpec
no_memory = record { base = 0; len = 0 } ∷ []

-- what a board is asked for: of a larger memory none, so that the board refuses its size
abbrev pub asked_of_board : Format → SlotSpec → SlotSpec
asked_of_board format spec =
    if nat_lt (most_memory format) (size_of spec.regions) then record spec { regions = no_memory } else spec
