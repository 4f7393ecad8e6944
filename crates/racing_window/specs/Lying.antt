-- Where a queue's areas lie, they lie in a memory of the same range.
use Rattle.guest_memory.specs.Memory.{Memory, SameRange}
use Rattle.mmio_window.specs.declared.queue.Queue.{Queue}
use Rattle.mmio_window.specs.declared.queue.Queue.TheVariants.{Split, Packed}
use Rattle.mmio_window.specs.Queue.{LiesIn}
use Rattle.racing_ring.specs.Lying.{packed_lies, split_lies}

pub queue_lies : (m n : Memory) (queue : Queue) → SameRange m n → LiesIn m queue → LiesIn n queue
queue_lies m n (Split ring) same lies = split_lies m n ring.setup same lies
queue_lies m n (Packed ring) same lies = packed_lies m n ring.setup same lies
