-- What the driver of a split queue asks for: a notification of used buffers, or none (2.7.7).
use Rattle.std.specs.Prelude.{◌≡◌, ℕ, ◌+◌, ◌*◌, ◌%◌, ◌<◌, Bool}
use Rattle.std.specs.Bool.{OnTrue, OnFalse}
use Rattle.guest_memory.specs.Memory.{Memory, num}
use Rattle.suppression.specs.Places.{Passed, idx_modulus}

-- the available ring's flags (2.7.6)
abbrev pub avail_flags : Memory → ℕ → ℕ
avail_flags m driver_area = num m driver_area 2

-- used_event, the number behind the flags, the idx and the n entries of the available ring (2.7.6)
abbrev pub used_event : Memory → ℕ → ℕ → ℕ
used_event m driver_area n = num m (driver_area + 4 + 2 * n) 2

-- the driver wants a notification of the count used entries that were placed from a place on
pub record SplitWants (m : Memory) (driver_area n : ℕ) (event_idx : Bool) (from count : ℕ) : Type 0 where
  -- something was used
  pub some : 0 < count
  -- without VIRTIO_F_EVENT_IDX the flags decide: bit 0, VIRTQ_AVAIL_F_NO_INTERRUPT, is clear
  pub flag : OnFalse event_idx (avail_flags m driver_area % 2 ≡ 0)
  -- with it they are ignored, and an entry was placed where used_event says
  pub event : OnTrue event_idx (Passed idx_modulus from count (used_event m driver_area n))
