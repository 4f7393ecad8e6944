-- What a write leaves of a queue that is ready, and of the configuration's generation.
use Rattle.std.specs.Prelude.{◌≡◌, ℕ, Bool, true, false, None, Some, IsSome}
use Rattle.std.specs.Option.{option_map_or}
use Rattle.guest_memory.specs.Memory.{Memory}
use Rattle.mmio_window.specs.declared.queue.Queue.{Queue}
use Rattle.mmio_window.specs.declared.queue_registers.QueueRegisters.{QueueRegisters}
use Rattle.mmio_window.specs.declared.register.Register.{Register}
use Rattle.mmio_window.specs.declared.register.Register.TheVariants.{QueueReady, Status}
use Rattle.mmio_window.specs.Registers.{register_at}
use Rattle.mmio_window.specs.Window.{WindowState, queue_at, registers_of}
use Rattle.mmio_window.specs.Writing.{written}

-- Whether a write to this register may stop a ready queue (4.2.2): a reset by Status does (2.4), and so does
-- QueueReady;
-- Status can also end the device's work otherwise (2.1.2). No other write does.
abbrev pub stops_queues : Register → Bool
stops_queues QueueReady = true
stops_queues Status = true
stops_queues register = false

-- the same of an offset
abbrev pub may_stop_queues : ℕ → Bool
may_stop_queues offset = option_map_or stops_queues (register_at offset) false

-- Each queue that was ready is so with the same registers and the same ring, one that its device may serve stays
-- one, and no other becomes one.
pub record KeepsQueues (old new : WindowState) : Type 0 where
  pub ready : (q : ℕ) (registers : QueueRegisters) → registers_of q old ≡ Some registers
      → IsSome registers.ring → registers_of q new ≡ Some registers
  pub served : (q : ℕ) (queue : Queue) → queue_at q old ≡ Some queue → queue_at q new ≡ Some queue
  pub unserved : (q : ℕ) → queue_at q old ≡ None → queue_at q new ≡ None

-- No write changes the size, an address or the ring of a ready queue: it stays as it is, or it isn't ready
-- any more.
abbrev pub ReadyQueueStays : Type 0
ReadyQueueStays =
    (offset width value : ℕ) (m : Memory) (w : WindowState) (q : ℕ) (old new : QueueRegisters)
    → registers_of q w ≡ Some old → IsSome old.ring
    → registers_of q (written offset width value m w) ≡ Some new → IsSome new.ring → new ≡ old

-- No write stops a ready queue but one to those two registers.
abbrev pub ReadyQueueOutlasts : Type 0
ReadyQueueOutlasts =
    (offset width value : ℕ) (m : Memory) (w : WindowState) → may_stop_queues offset ≡ false
    → KeepsQueues w (written offset width value m w)

-- No write changes ConfigGeneration, a reset neither.
abbrev pub GenerationStays : Type 0
GenerationStays =
    (offset width value : ℕ) (m : Memory) (w : WindowState)
    → (written offset width value m w).config_generation ≡ w.config_generation
