-- What a window keeps, as plain numbers: as it is saved from one window, and restored to another.
use Rattle.std.specs.Prelude.{if◌then◌else◌, Option, None, Some}
use Rattle.std.specs.Option.{option_and_then, option_map}
use Rattle.guest_memory.specs.Memory.{Memory}
use Rattle.negotiation.specs.Negotiation.{NegotiationState, negotiated_of, standing}
use Rattle.negotiation.specs.Sets.{has}
use Rattle.negotiation.specs.Status.{features_ok}
use Rattle.split_ring.specs.Reached as split
use Rattle.packed_ring.specs.Reached as packed
use Rattle.mmio_window.specs.declared.device_kind.DeviceKind.{DeviceKind}
use Rattle.mmio_window.specs.declared.queue.Queue.{Queue}
use Rattle.mmio_window.specs.declared.queue.Queue.TheVariants.{Split, Packed}
use Rattle.mmio_window.specs.declared.queue_registers.QueueRegisters.{QueueRegisters}
use Rattle.mmio_window.specs.declared.saved.Reached.{Reached}
use Rattle.mmio_window.specs.declared.saved.SavedNegotiation.{SavedNegotiation}
use Rattle.mmio_window.specs.declared.saved.SavedQueue.{SavedQueue}
use Rattle.mmio_window.specs.declared.saved.SavedSelectors.{SavedSelectors}
use Rattle.mmio_window.specs.declared.saved.SavedWindow.{SavedWindow}
use Rattle.mmio_window.specs.QueueRegisters.{ring_of}
use Rattle.mmio_window.specs.Window.{WindowState}

-- ---- a ready queue

-- how far it is served
abbrev pub reached_of : Queue → Reached
reached_of (Split ring) = record {
  place = ring.place;
  pending = ring.pending;
  used_count = ring.used_count;
  ahead = ring.ahead;
}
reached_of (Packed ring) = record {
  place = ring.place;
  pending = ring.pending;
  used_count = ring.used_count;
  ahead = ring.ahead;
}

-- the queue, served so far, if any service comes so far
abbrev pub served_to : Reached → Queue → Option Queue
served_to reached (Split ring) =
    option_map Split (split.served_to reached.place reached.pending reached.used_count reached.ahead ring)
served_to reached (Packed ring) =
    option_map Packed (packed.served_to reached.place reached.pending reached.used_count reached.ahead ring)

-- ---- the registers of a queue

abbrev pub saved_queue : QueueRegisters → SavedQueue
saved_queue queue = record {
  number = queue.number;
  descriptor_area = queue.descriptor_area;
  driver_area = queue.driver_area;
  device_area = queue.device_area;
  reached = option_map reached_of queue.ring;
}

-- the registers with this ring, or none
abbrev pub registers_with : SavedQueue → Option Queue → QueueRegisters
registers_with saved ring = record {
  number = saved.number;
  descriptor_area = saved.descriptor_area;
  driver_area = saved.driver_area;
  device_area = saved.device_area;
  ring = ring;
}

-- the ring that they make with the negotiated features, served so far: there is one only where FEATURES_OK
-- stands
abbrev pub ring_reached : Memory → NegotiationState → SavedQueue → Reached → Option Queue
ring_reached m n saved reached =
    if has n.status features_ok then option_and_then (served_to reached)
    (ring_of m (negotiated_of n) (registers_with saved None))
    else None

abbrev pub queue_at_reached : Memory → NegotiationState → SavedQueue → Option Reached → Option QueueRegisters
queue_at_reached m n saved None = Some (registers_with saved None)
queue_at_reached m n saved (Some reached) =
    option_map (λ ring. registers_with saved (Some ring)) (ring_reached m n saved reached)

-- The registers as they were saved, with their ring where the queue was ready: there are none where no such
-- ring can be.
abbrev pub queue_restored : Memory → NegotiationState → SavedQueue → Option QueueRegisters
queue_restored m n saved = queue_at_reached m n saved saved.reached

-- ---- the window

abbrev pub saved_negotiation : NegotiationState → SavedNegotiation
saved_negotiation n = record { offered = n.offered; status = n.status; accepted = n.accepted }

abbrev pub saved_selectors : WindowState → SavedSelectors
saved_selectors w = record {
  device_features = w.device_features_sel;
  driver_features = w.driver_features_sel;
  queue = w.queue_sel;
  shm = w.shm_sel;
}

abbrev pub saved_window : WindowState → SavedWindow
saved_window w = record {
  negotiation = saved_negotiation w.negotiation;
  selectors = saved_selectors w;
  queue_0 = saved_queue w.queue_0;
  queue_1 = saved_queue w.queue_1;
  interrupts = w.interrupts;
  config_generation = w.config_generation;
}

-- status and features as they were saved
abbrev pub negotiation_saved : SavedNegotiation → NegotiationState
negotiation_saved n = record { status = n.status; offered = n.offered; accepted = n.accepted }

-- the window of a device of this kind with this negotiation and these queues, and the rest as it was saved
abbrev pub window_with : DeviceKind → SavedWindow → NegotiationState → QueueRegisters
    → QueueRegisters → WindowState
window_with kind saved n queue_0 queue_1 = record {
  kind = kind;
  negotiation = n;
  device_features_sel = saved.selectors.device_features;
  driver_features_sel = saved.selectors.driver_features;
  queue_sel = saved.selectors.queue;
  queue_0 = queue_0;
  queue_1 = queue_1;
  interrupts = saved.interrupts;
  shm_sel = saved.selectors.shm;
  config_generation = saved.config_generation;
}

-- The window of a device of this kind as it was saved, over this memory. There is none where status and
-- features can't stand so, or a queue was ready that can't be.
abbrev pub window_restored : DeviceKind → Memory → SavedWindow → Option WindowState
window_restored kind m saved =
    option_and_then (λ n.
    option_and_then (λ queue_0.
    option_map (λ queue_1. window_with kind saved n queue_0 queue_1) (queue_restored m n saved.queue_1))
    (queue_restored m n saved.queue_0))
    (standing (negotiation_saved saved.negotiation))
