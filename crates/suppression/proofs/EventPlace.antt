-- The place that the driver of a packed queue names, and whether it was passed.
use Rattle.std.proofs.Common.{◌≡◌, ℕ, ◌+◌, ◌*◌, ◌<◌, ◌↔◌, Bool, true, false, arith}
use Rattle.std.proofs.Math.Nat.{mod-eq_of_lt}
use Rattle.std.proofs.lemmas.Grind.{common_steps}
use Rattle.guest_memory.specs.Memory.{Memory}
use Rattle.suppression.specs.Places.{Passed, position_of, wrap_counter_of}
use Rattle.suppression.specs.Packed.{PackedWants, IsEventPlace, event_flags, at_descriptor}
use Rattle.suppression.proofs.Distance.{mod-second_round}

-- the position of a place on the first run through the ring, and on the second
pub position_of-first : (n offset : ℕ) → offset < n → position_of n offset ≡ offset
position_of-first n offset within = mod-eq_of_lt within

pub position_of-second : (n offset : ℕ) → offset < n → position_of n (n + offset) ≡ offset
position_of-second n offset within = grind (arith, mod-second_round n (n + offset))

-- a place is determined by its position and its wrap counter
pub same_place : (n a b : ℕ) → a < 2 * n → b < 2 * n → position_of n a ≡ position_of n b →
    wrap_counter_of n a ≡ wrap_counter_of n b → a ≡ b
same_place n a b a_below b_below position wrap =
    grind (arith, common_steps, mod-eq_of_lt, mod-second_round)

-- the driver names a place: it wants a notification where that place was passed
pub PackedWants-event : (m : Memory) (driver_area n : ℕ) (event_idx : Bool) (from passed place : ℕ) →
    event_idx ≡ true → event_flags m driver_area ≡ at_descriptor → IsEventPlace m driver_area n place →
    PackedWants m driver_area n event_idx from passed ↔ Passed (2 * n) from passed place
PackedWants-event m driver_area n true from passed place _ flags named = (
  asks,
  λ among. record {
    some = omega (arith, among.within);
    flag = λ disabled. omega (arith, flags, disabled);
    event = λ _. record { place = place; named = named; among = among };
  },
)
  where
    asks : PackedWants m driver_area n true from passed → Passed (2 * n) from passed place
    asks wants =
        let asked = wants.event flags in
        rw (same_place n place asked.place named.below asked.named.below (cc) (cc)) asked.among
PackedWants-event m driver_area n false from passed place e _ _ = cc
