-- Whether a driver has put a chain on offer.
use Rattle.std.specs.Prelude.{◌&&◌, Bool, false, not, Option, Some, None, is_some}
use Rattle.guest_memory.specs.Memory.{Memory}
use Rattle.mmio_window.specs.declared.queue.Queue.{Queue}
use Rattle.mmio_window.specs.Queue.{queue_kind}

-- A chain is on offer: a service that is opened now finds one (2.7.13, 2.8.21).
abbrev pub has_offer : Memory → Queue → Bool
has_offer m queue = not (is_some (queue_kind.opening_fault m queue))
    && queue_kind.offers m (queue_kind.opened m queue)

-- The same of the queue that a device may serve, if there is one.
abbrev pub is_offered : Memory → Option Queue → Bool
is_offered m None = false
is_offered m (Some queue) = has_offer m queue
