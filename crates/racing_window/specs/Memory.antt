-- Whether a window can stand over a memory: each ready queue is judged again, as by a write to QueueReady (4.2.2).
use Rattle.std.specs.Prelude.{◌&&◌, ◌||◌, Bool, None, is_none, is_some}
use Rattle.guest_memory.specs.Memory.{Memory}
use Rattle.negotiation.specs.Negotiation.{NegotiationState}
use Rattle.mmio_window.specs.declared.register.Register.TheVariants.{QueueReady}
use Rattle.mmio_window.specs.declared.saved.SavedQueue.{SavedQueue}
use Rattle.mmio_window.specs.QueueRegisters.{queue_written}
use Rattle.mmio_window.specs.Saved.{registers_with, saved_queue}
use Rattle.mmio_window.specs.Window.{WindowState}

-- whether a queue with these registers could be made ready over this memory: its areas are aligned and lie there
abbrev pub is_made_ready : Memory → NegotiationState → SavedQueue → Bool
is_made_ready m n queue = is_some (queue_written QueueReady 1 m n (registers_with queue None)).ring

-- whether it isn't ready, or could be made so again
abbrev pub queue_fits : Memory → NegotiationState → SavedQueue → Bool
queue_fits m n queue = is_none queue.reached || is_made_ready m n queue

-- both queues do
abbrev pub window_fits : Memory → WindowState → Bool
window_fits m w = queue_fits m w.negotiation (saved_queue w.queue_0) && queue_fits m w.negotiation (saved_queue w.queue_1)
