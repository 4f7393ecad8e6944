-- What the driver of a packed queue asks for in its event suppression structure: two bytes with an
-- offset and a wrap counter, then two bytes with flags (2.8.10, 2.8.14).
use Rattle.std.specs.Prelude.{◌≡◌, ◌≢◌, ℕ, ◌+◌, ◌*◌, ◌/◌, ◌%◌, ◌^◌, ◌<◌, Bool}
use Rattle.std.specs.Bool.{OnTrue}
use Rattle.guest_memory.specs.Memory.{Memory, num}
use Rattle.suppression.specs.Places.{Passed, position_of, wrap_counter_of}

-- desc_event_off, the lower 15 bits of the first number
abbrev pub event_offset : Memory → ℕ → ℕ
event_offset m driver_area = num m driver_area 2 % 2 ^ 15

-- desc_event_wrap, the upper bit of the first number
abbrev pub event_wrap : Memory → ℕ → ℕ
event_wrap m driver_area = num m driver_area 2 / 2 ^ 15

-- desc_event_flags, the lower two bits of the second number
abbrev pub event_flags : Memory → ℕ → ℕ
event_flags m driver_area = num m (driver_area + 2) 2 % 4

-- RING_EVENT_FLAGS_DISABLE
abbrev pub disable : ℕ
disable = 1

-- RING_EVENT_FLAGS_DESC
abbrev pub at_descriptor : ℕ
at_descriptor = 2

-- the place of that position and wrap counter, in a ring of n descriptors; an offset of n or more is no
-- position in the ring, and names no place
pub record IsEventPlace (m : Memory) (driver_area n place : ℕ) : Type 0 where
  pub below : place < 2 * n
  pub position : position_of n place ≡ event_offset m driver_area
  pub wrap : wrap_counter_of n place ≡ event_wrap m driver_area

-- the place that the driver names is in this set
pub record NamesOneOf (m : Memory) (driver_area n : ℕ) (Passes : ℕ → Type 0) : Type 0 where
  pub place : ℕ
  pub named : IsEventPlace m driver_area n place
  pub among : Passes place

-- the driver wants a notification of the places passed from a place on; flags of 0 and 3, and 2 where
-- VIRTIO_F_EVENT_IDX wasn't negotiated, ask for one of any place
pub record PackedWants (m : Memory) (driver_area n : ℕ) (event_idx : Bool) (from passed : ℕ) : Type 0 where
  -- something was passed
  pub some : 0 < passed
  -- notifications aren't disabled
  pub flag : event_flags m driver_area ≢ disable
  -- where the driver asks for one place's notification, that place was passed
  pub event :
      OnTrue event_idx (event_flags m driver_area ≡ at_descriptor
      → NamesOneOf m driver_area n (Passed (2 * n) from passed))
