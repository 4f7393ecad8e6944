-- A chain of a ready queue that its driver leaves alone, by cases.
use Rattle.mmio_window.specs.declared.queue.Queue.TheVariants.{Packed, Split}
use Rattle.racing_service.proofs.LeftAlone.{LeftLaws, packed_left, split_left}
use Rattle.racing_window.specs.Laws.{LeavesQueue}
use Rattle.racing_window.specs.Queue.{racing_queue}
use Rattle.racing_window.proofs.Rings.{queue_stands_still}

pub queue_left : LeftLaws racing_queue LeavesQueue
queue_left = record {
  offers = λ old new. elim [ Split ring ↦ split_left.offers old new ring | Packed ring ↦ packed_left.offers old new ring ];
  offered = λ old new. elim [ Split ring ↦ split_left.offered old new ring | Packed ring ↦ packed_left.offered old new ring ];
  good = queue_stands_still.good;
}
