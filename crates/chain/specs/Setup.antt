-- How a virtqueue is set up, where its areas lie (2.6), and how far it is served.
use Rattle.std.specs.Prelude.{◌≡◌, ℕ, ◌+◌, ◌-◌, ◌%◌, Bool, ◌&&◌, ◌==◌}
use Rattle.guest_memory.specs.Memory.{Memory, Inside, is_inside}
use Rattle.chain.specs.declared.setup.Setup.{Setup}
use Rattle.chain.specs.declared.setup.Areas.{Areas}
use Rattle.chain.specs.declared.state.RingState.{RingState}

-- the three areas lie in the memory
pub record LiesIn (m : Memory) (setup : Setup) (areas : Areas) : Type 0 where
  pub desc : Inside m setup.desc areas.desc
  pub driver : Inside m setup.driver areas.driver
  pub device : Inside m setup.device areas.device

-- each area begins at a multiple of its alignment (2.7, 2.8)
pub record IsAligned (setup : Setup) (areas : Areas) : Type 0 where
  pub desc : setup.desc % 16 ≡ 0
  pub driver : setup.driver % areas.driver_alignment ≡ 0
  pub device : setup.device % 4 ≡ 0

-- the areas are aligned and lie in the memory
pub record FitsIn (m : Memory) (setup : Setup) (areas : Areas) : Type 0 where
  pub aligned : IsAligned setup areas
  pub lies : LiesIn m setup areas

-- a ring may be set up so: its size is one of its layout, its areas are aligned and lie in the memory
pub record IsUsable (IsQueueSize : ℕ → Type 0) (areas_of : ℕ → Areas) (m : Memory)
    (setup : Setup) : Type 0 where
  pub number : IsQueueSize setup.size
  pub fits : FitsIn m setup (areas_of setup.size)

-- the tests whether areas are aligned, and lie in the memory
abbrev pub is_aligned : Setup → Areas → Bool
is_aligned setup areas = setup.desc % 16 == 0 && setup.driver % areas.driver_alignment == 0 &&
    setup.device % 4 == 0

abbrev pub lies_in : Memory → Setup → Areas → Bool
lies_in m setup areas = is_inside m setup.desc areas.desc && is_inside m setup.driver areas.driver &&
    is_inside m setup.device areas.device

abbrev pub fits_in : Memory → Setup → Areas → Bool
fits_in m setup areas = is_aligned setup areas && lies_in m setup areas

-- a ring before its first service
abbrev pub new_ring : Setup → RingState
new_ring setup = record { setup = setup; place = 0; pending = 0; used_count = 0; ahead = 0 }

-- the ring, served so far
abbrev pub served_so_far : ℕ → ℕ → ℕ → ℕ → RingState → RingState
served_so_far place pending used_count ahead ring =
    record ring { place = place; pending = pending; used_count = used_count; ahead = ahead }

-- the ring behind a chain of so many places that stays in flight: it isn't taken again, and not used yet
abbrev pub launched : ℕ → RingState → RingState
launched places ring = record ring { pending = ring.pending - places; ahead = ring.ahead + places }

-- the ring after a fault: nothing more is taken in this service
abbrev pub stopped : RingState → RingState
stopped ring = record ring { pending = 0 }

-- the ring between two services
abbrev pub shut : RingState → RingState
shut ring = record ring { pending = 0; used_count = 0 }
