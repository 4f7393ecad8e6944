-- A split virtqueue as its device sees it (2.7), and what stands where in its three areas.
use Rattle.std.specs.Prelude.{ℕ, ◌+◌, ◌-◌, ◌*◌, ◌%◌, ◌≤◌, Bool, IsTrue, ◌&&◌, nat_le}
use Rattle.std.specs.Int.{is_power_of_two}
use Rattle.guest_memory.specs.Memory.{Memory, num, put_num}
use Rattle.chain.specs.declared.setup.Areas.{Areas}
use Rattle.chain.specs.declared.setup.Setup.{Setup}
use Rattle.chain.specs.Setup as setups
use Rattle.chain.specs.Setup.{fits_in}
use Rattle.chain.specs.declared.state.RingState.{RingState}
use Rattle.indirect.specs.declared.descriptor.Descriptor.{Descriptor}
use Rattle.indirect.specs.Descriptors.{split_table}
use Rattle.suppression.specs.Places.{idx_modulus, place_ahead}

-- what the layout asks of the areas of a ring of n descriptors: 16 bytes for each descriptor; flags, idx, an
-- entry of 2 bytes for each and used_event; flags, idx, an entry of 8 bytes for each and avail_event; the
-- driver area's address is even (2.7)
abbrev pub areas_of : ℕ → Areas
areas_of n = record { desc = 16 * n; driver = 6 + 2 * n; device = 6 + 8 * n; driver_alignment = 2 }

-- the three areas lie in the memory
abbrev pub LiesIn : Memory → Setup → Type 0
LiesIn m setup = setups.LiesIn m setup (areas_of setup.size)

-- a queue size: a power of two (2.7); at most 256 is this project's choice
pub record IsQueueSize (n : ℕ) : Type 0 where
  pub most : n ≤ 256
  pub power_of_two : IsTrue (is_power_of_two n)

-- the test of a queue size
abbrev pub is_queue_size : ℕ → Bool
is_queue_size n = nat_le n 256 && is_power_of_two n

-- the test whether a ring may be set up so
abbrev pub can_set_up : Memory → Setup → Bool
can_set_up m setup = is_queue_size setup.size && fits_in m setup (areas_of setup.size)

-- the i-th descriptor of the ring's table (2.7.5)
abbrev pub table_of : Memory → RingState → ℕ → Descriptor
table_of m ring = split_table m ring.setup.desc

-- the available ring's idx: where the driver would put its next head, modulo 65536 (2.7.6)
abbrev pub avail_idx : Memory → RingState → ℕ
avail_idx m ring = num m (ring.setup.driver + 2) 2

-- the place of the next chain, behind those in flight
abbrev pub next_taken : RingState → ℕ
next_taken ring = place_ahead idx_modulus ring.place ring.ahead

-- how many heads the driver has put from there on
abbrev pub on_offer : Memory → RingState → ℕ
on_offer m ring = (avail_idx m ring + (idx_modulus - next_taken ring)) % idx_modulus

-- the place behind the ring's place, which is what the used idx then tells (2.7.8)
abbrev pub next_place : RingState → ℕ
next_place ring = place_ahead idx_modulus ring.place 1

-- the head in the available entry of the next chain's place: an index into the descriptor table (2.7.6)
abbrev pub head_of : Memory → RingState → ℕ
head_of m ring = num m (ring.setup.driver + 4 + 2 * (next_taken ring % ring.setup.size)) 2

-- the address of the used entry of the ring's place (2.7.8)
abbrev pub used_entry : RingState → ℕ
used_entry ring = ring.setup.device + 4 + 8 * (ring.place % ring.setup.size)

-- the memory once a head is used: its index and how many bytes were written stand in the used entry of the
-- ring's place, and then the used idx is the place behind it (2.7.8)
abbrev pub with_used : Memory → RingState → ℕ → ℕ → Memory
with_used m ring head len =
    let entry = used_entry ring in
    put_num (put_num (put_num m entry 4 head) (entry + 4) 4 len) (ring.setup.device + 2) 2 (next_place ring)
