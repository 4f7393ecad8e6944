-- A window is sound for a memory: each of its ready queues is the ring that its registers and features make,
-- and lies in that memory.
use Rattle.std.specs.Prelude.{◌≡◌, ℕ, Some, IfSome}
use Rattle.guest_memory.specs.Memory.{Memory, SameRange}
use Rattle.negotiation.specs.Negotiation.{NegotiationState, negotiated_of}
use Rattle.negotiation.specs.Sets.{Has}
use Rattle.negotiation.specs.Status.{features_ok}
use Rattle.mmio_window.specs.declared.queue.Queue.{Queue}
use Rattle.mmio_window.specs.declared.queue_registers.QueueRegisters.{QueueRegisters}
use Rattle.mmio_window.specs.Queue.{LiesIn, made_as}
use Rattle.mmio_window.specs.QueueRegisters.{ring_of}
use Rattle.mmio_window.specs.Window.{WindowState, queue_at, registers_of, with_ring}

-- a ring is that of a queue: FEATURES_OK stands, and but for how far it is served the ring is the one that
-- the queue's number and addresses and the negotiated features make; its areas lie in the memory
pub record IsRingOf (m : Memory) (n : NegotiationState) (registers : QueueRegisters)
    (ring : Queue) : Type 0 where
  pub settled : Has n.status features_ok
  pub made : ring_of m (negotiated_of n) registers ≡ Some (made_as ring)
  pub lies : LiesIn m ring

-- a queue that is ready has its ring
abbrev pub HasItsRing : Memory → NegotiationState → QueueRegisters → Type 0
HasItsRing m n registers = IfSome registers.ring (IsRingOf m n registers)

-- the window is sound for the memory
pub record IsSound (m : Memory) (w : WindowState) : Type 0 where
  pub queue_0 : HasItsRing m w.negotiation w.queue_0
  pub queue_1 : HasItsRing m w.negotiation w.queue_1

-- A sound window stays so while its device serves a queue: with another ring there of the same setup, and for
-- a memory of the same range.
abbrev pub ServingKeepsSound : Type 0
ServingKeepsSound =
    (old new : Memory) (w : WindowState) (q : ℕ) (ring served : Queue) → IsSound old w → SameRange old new
    → queue_at q w ≡ Some ring → made_as served ≡ made_as ring → IsSound new (with_ring q w served)

-- A window that is sound for a memory is so for every memory of its range, whatever bytes that has.
abbrev pub SoundForTheRange : Type 0
SoundForTheRange = (old new : Memory) (w : WindowState) → IsSound old w → SameRange old new → IsSound new w

-- The ready queue of a sound window is the ring of its registers.
abbrev pub ReadyQueueIsItsRing : Type 0
ReadyQueueIsItsRing =
    (m : Memory) (w : WindowState) (q : ℕ) (registers : QueueRegisters) (ring : Queue) → IsSound m w
    → registers_of q w ≡ Some registers → registers.ring ≡ Some ring → IsRingOf m w.negotiation registers ring
