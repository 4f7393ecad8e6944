-- The registers of one queue (4.2.2): what its driver's writes make of them, and when it is made ready.
use Rattle.std.specs.Prelude.{ℕ, ◌+◌, ◌*◌, ◌/◌, ◌%◌, ◌^◌, ◌==◌, ◌&&◌, if◌then◌else◌, Option, None, Some, is_some, is_none}
use Rattle.guest_memory.specs.Memory.{Memory}
use Rattle.chain.specs.declared.setup.Setup.{Setup}
use Rattle.chain.specs.Setup.{new_ring}
use Rattle.negotiation.specs.Features.{indirect_desc, event_idx, ring_packed}
use Rattle.negotiation.specs.Negotiation.{NegotiationState, negotiated_of}
use Rattle.negotiation.specs.Sets.{has}
use Rattle.negotiation.specs.Status.{features_ok}
use Rattle.split_ring.specs.Ring as split
use Rattle.packed_ring.specs.Ring as packed
use Rattle.mmio_window.specs.declared.queue.Queue.{Queue}
use Rattle.mmio_window.specs.declared.queue.Queue.TheVariants.{Split, Packed}
use Rattle.mmio_window.specs.declared.queue_registers.QueueRegisters.{QueueRegisters}
use Rattle.mmio_window.specs.declared.register.Register.{Register}
use Rattle.mmio_window.specs.declared.register.Register.TheVariants.{QueueNum, QueueReady, QueueDescLow, QueueDescHigh, QueueDriverLow, QueueDriverHigh, QueueDeviceLow, QueueDeviceHigh}

-- nothing is set up
abbrev pub no_queue : QueueRegisters
no_queue = record { number = 0; descriptor_area = 0; driver_area = 0; device_area = 0; ring = None }

-- how a ring of these registers and of these negotiated features is set up
abbrev pub setup_of : ℕ → QueueRegisters → Setup
setup_of features queue = record {
  size = queue.number;
  desc = queue.descriptor_area;
  driver = queue.driver_area;
  device = queue.device_area;
  indirect = has features indirect_desc;
  event_idx = has features event_idx;
}

-- a split ring, if its size is a power of two up to 256, and its areas are aligned and lie in the memory
-- (2.7)
abbrev pub split_ring_of : Memory → Setup → Option Queue
split_ring_of m setup = if split.can_set_up m setup then Some (Split (new_ring setup)) else None

-- a packed ring, if its size is any number from 1 to 256, and its areas are aligned and lie in the memory
-- (2.8)
abbrev pub packed_ring_of : Memory → Setup → Option Queue
packed_ring_of m setup = if packed.can_set_up m setup then Some (Packed (new_ring setup)) else None

-- the ring that a queue gets as it is made ready, at its first place: a packed one exactly where RING_PACKED
-- was negotiated (6)
abbrev pub ring_of : Memory → ℕ → QueueRegisters → Option Queue
ring_of m features queue =
    if has features ring_packed then packed_ring_of m (setup_of features queue)
    else split_ring_of m (setup_of features queue)

-- a write to QueueReady: 0 stops the queue; 1 makes it ready where it isn't, the features are settled, and
-- there is a ring for it; other values do nothing
abbrev pub with_ready_written : ℕ → Memory → NegotiationState → QueueRegisters → QueueRegisters
with_ready_written value m n queue =
    if value == 0 then record queue { ring = None }
    else if value == 1 && is_none queue.ring && has n.status features_ok then
    record queue { ring = ring_of m (negotiated_of n) queue }
    else queue

-- an address with another low half
abbrev pub with_low : ℕ → ℕ → ℕ
with_low half address = address / 2 ^ 32 * 2 ^ 32 + half

-- an address with another high half
abbrev pub with_high : ℕ → ℕ → ℕ
with_high half address = half * 2 ^ 32 + address % 2 ^ 32

-- a write to the size or to an address
abbrev pub set_up : Register → ℕ → QueueRegisters → QueueRegisters
set_up QueueNum value queue = record queue { number = value }
set_up QueueDescLow value queue = record queue { descriptor_area = with_low value queue.descriptor_area }
set_up QueueDescHigh value queue = record queue { descriptor_area = with_high value queue.descriptor_area }
set_up QueueDriverLow value queue = record queue { driver_area = with_low value queue.driver_area }
set_up QueueDriverHigh value queue = record queue { driver_area = with_high value queue.driver_area }
set_up QueueDeviceLow value queue = record queue { device_area = with_low value queue.device_area }
set_up QueueDeviceHigh value queue = record queue { device_area = with_high value queue.device_area }
set_up _ value queue = queue

-- a write to one of the queue's registers; while the queue is ready its size and addresses stay
abbrev pub queue_written : Register → ℕ → Memory → NegotiationState → QueueRegisters → QueueRegisters
queue_written QueueReady value m n queue = with_ready_written value m n queue
queue_written register value m n queue = if is_some queue.ring then queue else set_up register value queue
