-- Wanted by the first place and the number of places is wanted by the set of them.
use Rattle.std.proofs.Common.{refl, ℕ, ◌*◌, ◌<◌, ◌↔◌, Bool, arith}
use Rattle.guest_memory.specs.Memory.{Memory}
use Rattle.suppression.specs.Places.{Passed, idx_modulus, place_ahead}
use Rattle.suppression.specs.Split.{SplitWants}
use Rattle.suppression.specs.Packed.{PackedWants}
use Rattle.suppression.specs.Sets.{HasPlace, SplitWantsOf, PackedWantsOf}

-- of some places the first was passed
first_of : (modulus from count : ℕ) → 0 < count → HasPlace (Passed modulus from count)
first_of modulus from count some = record {
  place = place_ahead modulus from 0;
  among = record { steps = 0; within = some; there = refl };
}

-- where a place was passed, there are some
some_of : (modulus from count : ℕ) → HasPlace (Passed modulus from count) → 0 < count
some_of modulus from count some = omega (arith, some.among.within)

pub split_wants_of : (m : Memory) (driver_area n : ℕ) (event_idx : Bool) (from count : ℕ) →
    SplitWants m driver_area n event_idx from count
    ↔ SplitWantsOf m driver_area n event_idx (Passed idx_modulus from count)
split_wants_of m driver_area n event_idx from count = (
  λ w. record { some = first_of idx_modulus from count w.some; flag = w.flag; event = w.event },
  λ w. record { some = some_of idx_modulus from count w.some; flag = w.flag; event = w.event },
)

pub packed_wants_of : (m : Memory) (driver_area n : ℕ) (event_idx : Bool) (from passed : ℕ) →
    PackedWants m driver_area n event_idx from passed
    ↔ PackedWantsOf m driver_area n event_idx (Passed (2 * n) from passed)
packed_wants_of m driver_area n event_idx from passed = (
  λ w. record { some = first_of (2 * n) from passed w.some; flag = w.flag; event = w.event },
  λ w. record { some = some_of (2 * n) from passed w.some; flag = w.flag; event = w.event },
)
