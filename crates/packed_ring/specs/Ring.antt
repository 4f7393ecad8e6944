-- A packed virtqueue as its device sees it (2.8), and what stands where in its three areas.
use Rattle.std.specs.Prelude.{ℕ, ◌+◌, ◌*◌, ◌%◌, ◌^◌, ◌<◌, ◌≤◌, Bool, not, ◌&&◌, ◌==◌, nat_lt, nat_le, if◌then◌else◌, Some, None}
use Rattle.guest_memory.specs.Memory.{Memory, num, put_num}
use Rattle.chain.specs.declared.setup.Areas.{Areas}
use Rattle.chain.specs.declared.setup.Setup.{Setup}
use Rattle.chain.specs.Setup as setups
use Rattle.chain.specs.Setup.{fits_in}
use Rattle.chain.specs.declared.state.RingState.{RingState}
use Rattle.indirect.specs.declared.descriptor.Descriptor.{Descriptor}
use Rattle.indirect.specs.Descriptors.{packed_buffer, next_flag, write_flag, indirect_flag, has_flag}
use Rattle.suppression.specs.Places.{place_ahead, position_of, wrap_counter_of}

-- what the layout asks of the areas of a ring of n descriptors: 16 bytes for each descriptor, and 4 for each
-- event suppression structure, aligned to 4 bytes (2.8)
abbrev pub areas_of : ℕ → Areas
areas_of n = record { desc = 16 * n; driver = 4; device = 4; driver_alignment = 4 }

-- the three areas lie in the memory
abbrev pub LiesIn : Memory → Setup → Type 0
LiesIn m setup = setups.LiesIn m setup (areas_of setup.size)

-- a queue size: any number from 1 on (2.8); at most 256 is this project's choice
pub record IsQueueSize (n : ℕ) : Type 0 where
  pub least : 0 < n
  pub most : n ≤ 256

-- the test of a queue size
abbrev pub is_queue_size : ℕ → Bool
is_queue_size n = nat_lt 0 n && nat_le n 256

-- the test whether a ring may be set up so
abbrev pub can_set_up : Memory → Setup → Bool
can_set_up m setup = is_queue_size setup.size && fits_in m setup (areas_of setup.size)

-- VIRTQ_DESC_F_AVAIL, bit 7 of a descriptor's flags (2.8.1)
abbrev pub avail_flag : ℕ
avail_flag = 2 ^ 7

-- VIRTQ_DESC_F_USED, bit 15 of a descriptor's flags (2.8.1)
abbrev pub used_flag : ℕ
used_flag = 2 ^ 15

-- the address of the descriptor at a position of the ring at an address (2.8)
abbrev pub descriptor_addr : ℕ → ℕ → ℕ
descriptor_addr desc position = desc + 16 * position

-- the buffer id and the flags of the descriptor at an address (2.8.13)
abbrev pub id_of : Memory → ℕ → ℕ
id_of m addr = num m (addr + 12) 2

abbrev pub flags_of : Memory → ℕ → ℕ
flags_of m addr = num m (addr + 14) 2

-- the descriptor at a position of the ring of n descriptors at an address; where it has NEXT, its list goes
-- on at the next position, and behind the last at the first (2.8.6)
abbrev pub ring_descriptor : Memory → ℕ → ℕ → ℕ → Descriptor
ring_descriptor m desc n position =
    let addr = descriptor_addr desc position in
    record {
      buffer = packed_buffer m addr;
      indirect = has_flag (flags_of m addr) indirect_flag;
      next = if has_flag (flags_of m addr) next_flag then Some ((position + 1) % n) else None;
    }

-- the descriptor at each position of a ring
abbrev pub table_of : Memory → RingState → ℕ → Descriptor
table_of m ring = ring_descriptor m ring.setup.desc ring.setup.size

-- the place of the next list, behind those in flight
abbrev pub next_taken : RingState → ℕ
next_taken ring = place_ahead (2 * ring.setup.size) ring.place ring.ahead

-- the position of the next list's place
abbrev pub head_of : RingState → ℕ
head_of ring = position_of ring.setup.size (next_taken ring)

-- the position of the ring's place, where the next used descriptor is written
abbrev pub used_head : RingState → ℕ
used_head ring = position_of ring.setup.size ring.place

-- the wrap counter of the ring's place, and of the next list's (2.8.1)
abbrev pub wrap_counter : RingState → ℕ
wrap_counter ring = wrap_counter_of ring.setup.size ring.place

abbrev pub next_wrap : RingState → ℕ
next_wrap ring = wrap_counter_of ring.setup.size (next_taken ring)

-- the addresses of the descriptors there
abbrev pub used_addr : RingState → ℕ
used_addr ring = descriptor_addr ring.setup.desc (used_head ring)

abbrev pub head_addr : RingState → ℕ
head_addr ring = descriptor_addr ring.setup.desc (head_of ring)

-- a flag of a word of flags, as a number
abbrev pub bit_of : ℕ → ℕ → ℕ
bit_of flags flag = if has_flag flags flag then 1 else 0

-- the descriptor at the next list's place is available: AVAIL equals the wrap counter, and USED doesn't (2.8.1)
abbrev pub is_available : Memory → RingState → Bool
is_available m ring =
    let flags = flags_of m (head_addr ring) in
    bit_of flags avail_flag == next_wrap ring && not (bit_of flags used_flag == next_wrap ring)

-- the place so many steps further
abbrev pub place_behind : RingState → ℕ → ℕ
place_behind ring length = place_ahead (2 * ring.setup.size) ring.place length

-- the flags of a used descriptor: AVAIL and USED both equal the wrap counter, WRITE tells whether anything
-- was written, and the other bits are 0 (2.8.1, 2.8.3)
abbrev pub used_flags : ℕ → Bool → ℕ
used_flags wrap wrote = wrap * avail_flag + wrap * used_flag + (if wrote then write_flag else 0)

-- the memory once a list is used: how many bytes were written, the list's id and its flags stand in the
-- descriptor at the ring's place, whose address field stays (2.8.1, 2.8.4, 2.8.6)
abbrev pub with_used : Memory → RingState → ℕ → ℕ → Bool → Memory
with_used m ring id len wrote =
    let addr = used_addr ring in
    put_num (put_num (put_num m (addr + 8) 4 len) (addr + 12) 2 id) (addr + 14) 2
    (used_flags (wrap_counter ring) wrote)
