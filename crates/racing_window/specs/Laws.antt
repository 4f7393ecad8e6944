-- What the laws ask of a queue.
use Rattle.std.specs.Prelude.{ℕ, List}
use Rattle.chain.specs.declared.segment.Buffer.{Buffer}
use Rattle.chain.specs.Service.{Entry}
use Rattle.mmio_window.specs.declared.queue.Queue.{Queue}
use Rattle.mmio_window.specs.declared.queue.Queue.TheVariants.{Split, Packed}
use Rattle.shared_memory.specs.Sightings.{Sightings}
use Rattle.racing_service.specs.LeftAlone.{LeavesPacked, LeavesSplit}
use Rattle.racing_window.specs.Queue.{IsOffered}

-- how many descriptors it has
abbrev pub size_of : Queue → ℕ
size_of (Split ring) = ring.setup.size
size_of (Packed ring) = ring.setup.size

-- its driver leaves a chain of it alone while it is taken (2.7.13, 2.8.21)
abbrev pub LeavesQueue : (old new : Sightings) (queue : Queue) (buffers : List Buffer) (entry : Entry)
    → IsOffered old new queue buffers entry → Type 0
LeavesQueue old new (Split ring) buffers entry taken = LeavesSplit old new ring buffers entry taken
LeavesQueue old new (Packed ring) buffers entry taken = LeavesPacked old new ring buffers entry taken
