-- What an event in which the disk has no part keeps of what is in flight.
use Rattle.std.specs.Prelude.{◌≡◌, false}
use Rattle.guest_memory.specs.Memory.{SameRange}
use Rattle.board.specs.declared.event.EventKind.{EventKind}
use Rattle.board.specs.Backing.{KeepsHost}
use Rattle.board.specs.Hosting.{block_beside, must_wait}
use Rattle.board.specs.Slot.{BoardSlot, KeepsPlace}

-- What is in flight of the slot stays, and where its buffers lie; and of an event that doesn't wait its queue.
pub record KeepsFlights {A : Type 0} (what : EventKind A) (old new : BoardSlot) : Type 0 where
  pub block : must_wait what ≡ false → new.block ≡ block_beside what old
  pub host : KeepsHost old.host new.host
  pub range : SameRange old.memory new.memory
  pub place : KeepsPlace old new
