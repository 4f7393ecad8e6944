-- What a service asks of a kind of racing ring: each of its calls by what the memory was seen as.
use Rattle.std.specs.Prelude.{◌≡◌, ℕ, ◌^◌, ◌<◌, Bool, nat_lt, List}
use Rattle.chain.specs.declared.segment.Buffer.{Buffer}
use Rattle.chain.specs.declared.fault.Fault.{Fault}
use Rattle.chain.specs.declared.state.RingState.{RingState}
use Rattle.chain.specs.Service.{Entry, Kind}
use Rattle.split_ring.specs.Kind.{split_kind}
use Rattle.packed_ring.specs.Kind.{packed_kind}
use Rattle.shared_memory.specs.Sightings.{Sightings}
use Rattle.racing_ring.specs.Split as split
use Rattle.racing_ring.specs.Packed as packed

-- A kind of racing ring. Each definition is of two sightings, as a call found them and as it left them.
pub record RacingKind (Ring : Type 0) : Type 1 where
  -- the same kind, of a guest that stands still; what it says of a ring alone holds of both
  pub still : Kind Ring
  -- whether a chain was on offer
  pub IsTold : Sightings → Sightings → Ring → Bool → Type 0
  -- the chain on offer has these buffers and this entry; or it has a fault
  pub IsOffered : Sightings → Sightings → Ring → List Buffer → Entry → Type 0
  pub IsFaulty : Sightings → Sightings → Ring → Fault → Type 0
  -- a used entry was stored, where races says whether the guest may write meanwhile: how many bytes were written
  -- without a gap, and whether any was
  pub IsGiven : Bool → Sightings → Sightings → Ring → Entry → ℕ → Bool → Type 0
  -- the closing writes were stored, and whether a notification is wanted was read behind them
  pub IsClosed : Bool → Sightings → Sightings → Ring → Bool → Type 0

-- the split ring, whose chains on offer were counted as it was opened (2.7.6 to 2.7.8, 2.7.13)
abbrev pub racing_split : RacingKind RingState
racing_split = record {
  still = split_kind;
  IsTold = λ old new ring offers. offers ≡ nat_lt 0 ring.pending;
  IsOffered = split.IsOffered;
  IsFaulty = λ old new ring fault. (0 < ring.pending) × split.IsFaulty old new ring fault;
  -- an id has 32 bits (2.7.8)
  IsGiven = λ races old new ring entry len wrote. (entry.id < 2 ^ 32) × split.IsGiven races old new ring entry.id len;
  IsClosed = split.IsClosed;
}

-- the packed ring, whose next list is on offer by the flags of its first descriptor (2.8.1 to 2.8.6, 2.8.21)
abbrev pub racing_packed : RacingKind RingState
racing_packed = record {
  still = packed_kind;
  IsTold = packed.IsTold;
  IsOffered = packed.IsOffered;
  IsFaulty = λ old new ring fault. (0 < ring.pending) × packed.IsFaulty old new ring fault;
  IsGiven = λ races old new ring entry len wrote. packed.IsGiven races old new ring entry.id len wrote;
  IsClosed = packed.IsClosed;
}
