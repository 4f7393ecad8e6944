-- A ready queue whose guest may write it meanwhile, as a kind of ring, by cases.
use Rattle.std.specs.Prelude.{ℕ, Bool, List}
use Rattle.chain.specs.declared.segment.Buffer.{Buffer}
use Rattle.chain.specs.declared.fault.Fault.{Fault}
use Rattle.chain.specs.Service.{Entry}
use Rattle.mmio_window.specs.declared.queue.Queue.{Queue}
use Rattle.mmio_window.specs.declared.queue.Queue.TheVariants.{Split, Packed}
use Rattle.mmio_window.specs.Queue.{queue_kind}
use Rattle.shared_memory.specs.Sightings.{Sightings}
use Rattle.racing_service.specs.Queue.{RacingKind, racing_packed, racing_split}

abbrev pub IsTold : Sightings → Sightings → Queue → Bool → Type 0
IsTold old new (Split ring) offers = racing_split.IsTold old new ring offers
IsTold old new (Packed ring) offers = racing_packed.IsTold old new ring offers

abbrev pub IsOffered : Sightings → Sightings → Queue → List Buffer → Entry → Type 0
IsOffered old new (Split ring) buffers entry = racing_split.IsOffered old new ring buffers entry
IsOffered old new (Packed ring) buffers entry = racing_packed.IsOffered old new ring buffers entry

abbrev pub IsFaulty : Sightings → Sightings → Queue → Fault → Type 0
IsFaulty old new (Split ring) fault = racing_split.IsFaulty old new ring fault
IsFaulty old new (Packed ring) fault = racing_packed.IsFaulty old new ring fault

abbrev pub IsGiven : Bool → Sightings → Sightings → Queue → Entry → ℕ → Bool → Type 0
IsGiven races old new (Split ring) entry len wrote = racing_split.IsGiven races old new ring entry len wrote
IsGiven races old new (Packed ring) entry len wrote = racing_packed.IsGiven races old new ring entry len wrote

abbrev pub IsClosed : Bool → Sightings → Sightings → Queue → Bool → Type 0
IsClosed races old new (Split ring) wanted = racing_split.IsClosed races old new ring wanted
IsClosed races old new (Packed ring) wanted = racing_packed.IsClosed races old new ring wanted

-- a ready queue as a kind of racing ring
abbrev pub racing_queue : RacingKind Queue
racing_queue = record {
  still = queue_kind;
  IsTold = IsTold;
  IsOffered = IsOffered;
  IsFaulty = IsFaulty;
  IsGiven = IsGiven;
  IsClosed = IsClosed;
}
