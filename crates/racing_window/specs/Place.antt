-- Where a ready queue stands: the place of its next used entry; and another place for a queue of which nothing is in flight.
use Rattle.std.specs.Prelude.{ℕ, Option}
use Rattle.std.specs.Option.{option_and_then, option_map}
use Rattle.mmio_window.specs.declared.queue.Queue.{Queue}
use Rattle.mmio_window.specs.declared.saved.Reached.{Reached}
use Rattle.mmio_window.specs.Saved.{reached_of, served_to}
use Rattle.mmio_window.specs.Window.{WindowState, queue_at, with_ring}

-- where the queue of this number stands, if the device may serve it
abbrev pub place_at : ℕ → WindowState → Option ℕ
place_at q w = option_map (λ queue. (reached_of queue).place) (queue_at q w)

-- a ring at this place: no service of it is under way, and nothing is in flight
abbrev pub reached_at : ℕ → Reached
reached_at place = record { place = place; pending = 0; used_count = 0; ahead = 0 }

-- the queue at this place, if its ring has one: a packed ring counts its places twice around, by the wrap counter (2.8.1)
abbrev pub moved_to : ℕ → Queue → Option Queue
moved_to place queue = served_to (reached_at place) queue

-- the window with the queue of this number at this place, if the device may serve it and its ring has the place
abbrev pub window_moved : ℕ → ℕ → WindowState → Option WindowState
window_moved q place w = option_map (with_ring q w) (option_and_then (moved_to place) (queue_at q w))
