-- The value of a racing ring: that of the queue whose ring it is.
use Rattle.mmio_window.specs.declared.queue.Queue.{Queue}
use Rattle.mmio_window.specs.declared.queue.Queue.TheVariants as queue
use Rattle.racing_window.specs.declared.ring.Layout.{Layout}
use Rattle.racing_window.specs.declared.ring.Layout.TheVariants.{Split, Packed}

abbrev pub queue_of : Layout → Queue
queue_of (Split ring) = queue.Split ring
queue_of (Packed ring) = queue.Packed ring
