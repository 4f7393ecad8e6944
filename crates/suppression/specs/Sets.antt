-- What a driver wants, said of the set of places that a service passed: it turns on that set and on nothing
-- else of how the service went (2.7.7, 2.8.10).
use Rattle.std.specs.Prelude.{◌≡◌, ◌≢◌, ℕ, ◌%◌, Bool}
use Rattle.std.specs.Bool.{OnTrue, OnFalse}
use Rattle.guest_memory.specs.Memory.{Memory}
use Rattle.suppression.specs.Split.{avail_flags, used_event}
use Rattle.suppression.specs.Packed.{NamesOneOf, event_flags, disable, at_descriptor}

-- some place is in this set
pub record HasPlace (Passes : ℕ → Type 0) : Type 0 where
  pub place : ℕ
  pub among : Passes place

-- the driver of a split queue wants a notification of the places of this set
pub record SplitWantsOf (m : Memory) (driver_area n : ℕ) (event_idx : Bool)
    (Passes : ℕ → Type 0) : Type 0 where
  -- some place was passed
  pub some : HasPlace Passes
  -- without VIRTIO_F_EVENT_IDX bit 0 of the flags is clear; with it used_event is in the set
  pub flag : OnFalse event_idx (avail_flags m driver_area % 2 ≡ 0)
  pub event : OnTrue event_idx (Passes (used_event m driver_area n))

-- the driver of a packed queue wants a notification of the places of this set
pub record PackedWantsOf (m : Memory) (driver_area n : ℕ) (event_idx : Bool)
    (Passes : ℕ → Type 0) : Type 0 where
  -- some place was passed
  pub some : HasPlace Passes
  -- notifications aren't disabled; and where one place is named, it is in the set
  pub flag : event_flags m driver_area ≢ disable
  pub event : OnTrue event_idx (event_flags m driver_area ≡ at_descriptor → NamesOneOf m driver_area n Passes)
