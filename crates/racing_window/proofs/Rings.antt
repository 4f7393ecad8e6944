-- A ready queue as a racing ring, of a guest that stands still: by cases.
use Rattle.std.proofs.Common.{refl}
use Rattle.guest_memory.specs.Memory.{Memory}
use Rattle.mmio_window.specs.declared.queue.Queue.{Queue}
use Rattle.mmio_window.specs.declared.queue.Queue.TheVariants.{Split, Packed}
use Rattle.racing_service.proofs.Rings.{IsPackedSound, IsSplitSound, packed_stands_still as packed, split_stands_still as split}
use Rattle.racing_service.proofs.Rounds.{StandsStill}
use Rattle.racing_window.specs.Queue.{racing_queue}

abbrev pub IsQueueSound : Memory → Queue → Type 0
IsQueueSound m (Split ring) = IsSplitSound m ring
IsQueueSound m (Packed ring) = IsPackedSound m ring

pub queue_stands_still : StandsStill racing_queue IsQueueSound
queue_stands_still = record {
  told = λ old new. elim [ Split ring ↦ split.told old new ring | Packed ring ↦ packed.told old new ring ];
  offered = λ old new. elim [ Split ring ↦ split.offered old new ring | Packed ring ↦ packed.offered old new ring ];
  good = λ old new. elim [ Split ring ↦ split.good old new ring | Packed ring ↦ packed.good old new ring ];
  met = λ old new. elim [ Split ring ↦ split.met old new ring | Packed ring ↦ packed.met old new ring ];
  faulty = λ old new. elim [ Split ring ↦ split.faulty old new ring | Packed ring ↦ packed.faulty old new ring ];
  given = λ old new. elim [ Split ring ↦ split.given old new ring | Packed ring ↦ packed.given old new ring ];
  closed = λ old new. elim [ Split ring ↦ split.closed old new ring | Packed ring ↦ packed.closed old new ring ];
  wants = λ old new. elim [ Split ring ↦ split.wants old new ring | Packed ring ↦ packed.wants old new ring ];
  used_range = λ m. elim [ Split ring ↦ split.used_range m ring | Packed ring ↦ packed.used_range m ring ];
  closed_range = λ m. elim [ Split ring ↦ split.closed_range m ring | Packed ring ↦ packed.closed_range m ring ];
  in_range = λ m n. elim [ Split ring ↦ split.in_range m n ring | Packed ring ↦ packed.in_range m n ring ];
  sound_opened = λ m n. elim [ Split ring ↦ split.sound_opened m n ring | Packed ring ↦ packed.sound_opened m n ring ];
  sound_past = λ m. elim [ Split ring ↦ split.sound_past m ring | Packed ring ↦ packed.sound_past m ring ];
  sound_stopped = λ m. elim [ Split ring ↦ split.sound_stopped m ring | Packed ring ↦ packed.sound_stopped m ring ];
  sound_shut = λ m. elim [ Split ring ↦ split.sound_shut m ring | Packed ring ↦ packed.sound_shut m ring ];
  shut_opened = λ m. elim [ Split ring ↦ refl | Packed ring ↦ refl ];
}
