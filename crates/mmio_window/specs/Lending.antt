-- How a window lends its queues.
use Rattle.std.specs.Prelude.{ℕ, Option}
use Rattle.std.specs.Borrow.{LendsIf, MutBor, Fml}
use Rattle.mmio_window.specs.declared.queue.Queue.{Queue}
use Rattle.mmio_window.specs.contracts.queue.Queue.{the_row as queue_row}
use Rattle.mmio_window.specs.contracts.window.Window.{the_row}
use Rattle.mmio_window.specs.Window.{WindowState, with_ring}

-- the window ends with that queue's ring as the last value behind the result, and unchanged where there is
-- none
abbrev pub LendsQueue : ℕ → MutBor WindowState → Option (MutBor Queue) → Fml
LendsQueue q w ring = LendsIf the_row queue_row w ring (with_ring q w.now) w.now
