-- A window as it stands between two accesses (4.2.2), and what its device's events make of it.
use Rattle.std.specs.Prelude.{ℕ, true, ◌+◌, ◌%◌, ◌^◌, ◌&&◌, if◌then◌else◌, Option, None, Some}
use Rattle.std.specs.Option.{option_and_then}
use Rattle.negotiation.specs.Negotiation.{NegotiationState, fresh, is_live, with_needs_reset}
use Rattle.negotiation.specs.Sets.{has}
use Rattle.negotiation.specs.Status.{driver_ok}
use Rattle.mmio_window.specs.declared.device_kind.DeviceKind.{DeviceKind}
use Rattle.mmio_window.specs.declared.device_kind.QueueIndex.{QueueIndex}
use Rattle.mmio_window.specs.declared.device_kind.QueueIndex.TheVariants.{Queue0, Queue1}
use Rattle.mmio_window.specs.declared.interrupts.Interrupts.{Interrupts}
use Rattle.mmio_window.specs.declared.queue.Queue.{Queue}
use Rattle.mmio_window.specs.declared.queue_registers.QueueRegisters.{QueueRegisters}
use Rattle.mmio_window.specs.DeviceKind.{configuration_changes, queue_of}
use Rattle.mmio_window.specs.Interrupts.{no_interrupts}
use Rattle.mmio_window.specs.QueueRegisters.{no_queue}

-- the state of a window: status and features, and what its registers hold
pub record WindowState : Type 0 where
  pub kind : DeviceKind
  pub negotiation : NegotiationState
  pub device_features_sel : ℕ
  pub driver_features_sel : ℕ
  pub queue_sel : ℕ
  pub queue_0 : QueueRegisters
  pub queue_1 : QueueRegisters
  pub interrupts : Interrupts
  pub shm_sel : ℕ
  pub config_generation : ℕ

-- a window after reset (2.4, 4.2.2.1) of a device that offers these features and whose configuration changed
-- so often
abbrev pub fresh_window : DeviceKind → ℕ → ℕ → WindowState
fresh_window kind offered generation = record {
  kind = kind;
  negotiation = fresh offered;
  device_features_sel = 0;
  driver_features_sel = 0;
  queue_sel = 0;
  queue_0 = no_queue;
  queue_1 = no_queue;
  interrupts = no_interrupts;
  shm_sel = 0;
  config_generation = generation;
}

-- a reset keeps the device and how often its configuration changed
abbrev pub reset : WindowState → WindowState
reset w = fresh_window w.kind w.negotiation.offered w.config_generation

-- ---- queues

-- the registers of a queue, if there is one
abbrev pub registers_in : Option QueueIndex → WindowState → Option QueueRegisters
registers_in None w = None
registers_in (Some Queue0) w = Some w.queue_0
registers_in (Some Queue1) w = Some w.queue_1

-- the window with a queue's registers changed, if there is one
abbrev pub with_registers_in : Option QueueIndex → (QueueRegisters → QueueRegisters)
    → WindowState → WindowState
with_registers_in None change w = w
with_registers_in (Some Queue0) change w = record w { queue_0 = change w.queue_0 }
with_registers_in (Some Queue1) change w = record w { queue_1 = change w.queue_1 }

-- the registers of the queue of this number, if the device has it
abbrev pub registers_of : ℕ → WindowState → Option QueueRegisters
registers_of q w = registers_in (queue_of w.kind q) w

-- the window with the registers of that queue changed, if the device has it
abbrev pub with_registers : ℕ → (QueueRegisters → QueueRegisters) → WindowState → WindowState
with_registers q change w = with_registers_in (queue_of w.kind q) change w

-- the ring of a queue, if the device has it and it is ready
abbrev pub ring_at : ℕ → WindowState → Option Queue
ring_at q w = option_and_then (λ registers. registers.ring) (registers_of q w)

-- the queue that a device may serve: it is ready, and the window is live (2.1.2)
abbrev pub queue_at : ℕ → WindowState → Option Queue
queue_at q w = if is_live w.negotiation then ring_at q w else None

-- the window with another ring in a queue
abbrev pub with_ring : ℕ → WindowState → Queue → WindowState
with_ring q w ring = with_registers q (λ registers. record registers { ring = Some ring }) w

-- ---- the device's events

-- a buffer was used (4.2.2)
abbrev pub with_used_interrupt : WindowState → WindowState
with_used_interrupt w = record w { interrupts = record w.interrupts { used_buffer = true } }

-- the configuration changed, or the status did
abbrev pub with_config_interrupt : WindowState → WindowState
with_config_interrupt w = record w { interrupts = record w.interrupts { configuration_change = true } }

-- the device asks to be reset, and tells its driver (2.1.2)
abbrev pub with_reset_asked : WindowState → WindowState
with_reset_asked w = with_config_interrupt (record w { negotiation = with_needs_reset w.negotiation })

-- the configuration has another generation (2.5)
abbrev pub with_generation_counted : WindowState → WindowState
with_generation_counted w = record w { config_generation = (w.config_generation + 1) % 2 ^ 32 }

-- The configuration changed, if it is of a kind that does: it has another generation, and a driver that is
-- ready is told (4.2.2).
abbrev pub with_config_changed : WindowState → WindowState
with_config_changed w =
    if configuration_changes w.kind && has w.negotiation.status driver_ok then with_config_interrupt
    (with_generation_counted w)
    else if configuration_changes w.kind then with_generation_counted w
    else w
