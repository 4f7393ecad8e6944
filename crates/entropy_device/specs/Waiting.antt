-- Whether a driver waits for random bytes.
use Rattle.std.specs.Prelude.{ℕ, ◌==◌, ◌&&◌, Bool, Option, List, length}
use Rattle.guest_memory.specs.Memory.{Memory}
use Rattle.mmio_window.specs.declared.queue.Queue.{Queue}
use Rattle.mmio_window.specs.Offering.{is_offered}

-- The pool is empty, and a chain is on offer in the queue that the device may serve.
abbrev pub is_starved : Memory → Option Queue → List ℕ → Bool
is_starved m queue pool = length pool == 0 && is_offered m queue
