-- A driver that leaves its chains alone while they are taken: what it has offered is the device's until it is used (2.7.13,
-- 2.8.21). What each chain of a service is then, whatever else the guest writes.
use Rattle.std.specs.Prelude.{◌≡◌, ℕ, ◌≤◌, Bool, true, false, Option, Some, None, List, [], ◌∷◌, ◌++◌, All}
use Rattle.std.proofs.Common.{inl, inr}
use Rattle.guest_memory.specs.Memory.{Memory}
use Rattle.chain.specs.declared.segment.Buffer.{Buffer}
use Rattle.chain.specs.declared.fault.Fault.{Fault}
use Rattle.chain.specs.declared.state.RingState.{RingState}
use Rattle.chain.specs.Bytes.{addresses_of, readable_of}
use Rattle.chain.specs.Service.{Device, Entry, Served, ServesChain, Site}
use Rattle.split_ring.specs.Ring.{head_of, table_of}
use Rattle.packed_ring.specs.Ring.{descriptor_addr}
use Rattle.shared_memory.specs.Bytes.{IsSteady}
use Rattle.shared_memory.specs.Sightings.{Sightings, memory}
use Rattle.racing_ring.specs.Split as split
use Rattle.racing_ring.specs.Packed as packed
use Rattle.racing_ring.specs.Packed.{IsOneDescriptor}
use Rattle.racing_service.specs.declared.service.Ending.{Ending}
use Rattle.racing_service.specs.declared.service.Ending.TheVariants.{Settled, Faulted, More}
use Rattle.racing_service.specs.declared.stage.Stage.{Stage}
use Rattle.racing_service.specs.declared.stage.Stage.TheVariants.{First, Next, Again}
use Rattle.racing_service.specs.Queue.{RacingKind}
use Rattle.racing_service.specs.Service.{Standing, Halt, Drained, Met, Limited, Round, ServesOne, ServesSome, Serves, Works, IsRound, IsBusyRound, AreBusyRounds, IsFirstRound, AreRounds, EndsBy, fault_at, stage_behind, IsRacingService, LeavesOne}

-- ---- what its driver leaves alone of a chain

-- Once a chain of a split ring is taken, its head and its descriptors stand as they were read.
pub record LeavesSplit (old new : Sightings) (ring : RingState) (buffers : List Buffer) (entry : Entry)
    (taken : split.IsOffered old new ring buffers entry) : Type 0 where
  pub head : head_of taken.head_in ring ≡ head_of (memory new) ring
  pub each : All (λ i. taken.walked.table i ≡ table_of (memory new) ring i)
      (taken.walked.resolves.reached.front ++ taken.walked.last ∷ [])

-- Once a list of a packed ring is taken, its descriptors stand as they were read.
pub record LeavesPacked (old new : Sightings) (ring : RingState) (buffers : List Buffer) (entry : Entry)
    (taken : packed.IsOffered old new ring buffers entry) : Type 0 where
  pub each : All (λ i. packed.IsLeftAlone (taken.source i) (memory new) (descriptor_addr ring.setup.desc i))
      (taken.offers.list.reached.front ++ taken.offers.last ∷ [])

-- From an access on the head of the next chain and these descriptors of the table were seen as at the last one.
pub record KeepsSplit (begin : ℕ) (new : Sightings) (ring : RingState) (members : List ℕ) : Type 0 where
  pub head : (k : ℕ) → begin ≤ k → k ≤ new.now → head_of (new.at k) ring ≡ head_of (memory new) ring
  pub each : All (λ i. (k : ℕ) → begin ≤ k → k ≤ new.now → table_of (new.at k) ring i ≡ table_of (memory new) ring i) members

-- or these of a packed ring
pub record KeepsPacked (begin : ℕ) (new : Sightings) (ring : RingState) (members : List ℕ) : Type 0 where
  pub each : All (λ i. (k : ℕ) → begin ≤ k → k ≤ new.now
      → IsOneDescriptor (new.at k) (memory new) (descriptor_addr ring.setup.desc i)) members

-- ---- a chain, and what one memory says of it

module _ {Ring State : Type 0} (kind : RacingKind Ring) (device : Device State) (races : Bool) where
  -- a chain that was served, and where the service stood before it and behind it
  pub record OneServed : Type 0 where
    pub before : Standing Ring State
    pub behind : Standing Ring State
    pub serves : ServesOne kind device races before behind

  -- Its driver leaves the chain alone: what is taken of it, and each readable byte while the device reads them.
  pub record IsLeftAlone
      (Leaves : (old new : Sightings) (ring : Ring) (buffers : List Buffer) (entry : Entry)
      → kind.IsOffered old new ring buffers entry → Type 0) (one : OneServed) : Type 0 where
    pub chain : Leaves one.before.sightings one.serves.taken one.before.ring one.serves.buffers one.serves.entry
        one.serves.offered
    pub bytes : All (IsSteady one.serves.taken one.serves.does.read_to) (addresses_of false one.serves.buffers)

  -- where a service would stand there of a guest that stands still, in the memory as it was seen once the chain was taken
  abbrev pub moment_of : OneServed → Site Ring State
  moment_of one = record {
    memory = memory one.serves.taken;
    ring = one.before.ring;
    state = one.before.state;
  }

  -- the chain, and what the device did with it
  abbrev pub chain_of : OneServed → Served State
  chain_of one = record {
    buffers = one.serves.buffers;
    entry = one.serves.entry;
    given = record { state = one.behind.state; written = one.serves.does.written };
  }

  -- That memory offers the chain, and the device did what it does with the chain in that memory.
  abbrev pub IsServedAtOnce : OneServed → Type 0
  IsServedAtOnce one = ServesChain kind.still device (moment_of one) (chain_of one)

  -- ---- the chains of a service, in order

  abbrev pub chains_between : (a : Standing Ring State) (between : List (Standing Ring State)) (b : Standing Ring State)
      → ServesSome kind device races a between b → List OneServed
  chains_between a [] b s = []
  chains_between a (x ∷ between) b s =
      record { before = a; behind = x; serves = s.0 } ∷ chains_between x between b s.1

  abbrev pub chains_served : (a : Standing Ring State) (halt : Halt) (b : Standing Ring State)
      → Serves kind device races a halt b → List OneServed
  chains_served a halt b s = chains_between a s.between s.at s.serves

  -- none where the opening met a fault
  abbrev pub chains_opened : (fault : Option Fault) (a : Standing Ring State) (halt : Halt) (b : Standing Ring State)
      → Works kind device races fault a halt b → List OneServed
  chains_opened (Some fault) a halt b w = []
  chains_opened None a halt b w = chains_served a halt b w

  abbrev pub chains_of_round : (stage : Stage) (a : Standing Ring State) (halt : Halt) (b : Standing Ring State)
      (wanted : Bool) → IsRound kind device races stage a halt b wanted → List OneServed
  chains_of_round stage a halt b wanted r =
      chains_opened (fault_at kind stage (memory r.run.opened.sightings) a.ring) r.run.opened halt r.last r.run.works

  abbrev pub chains_of_busy : (a b : Standing Ring State) (wanted : Bool) → IsBusyRound kind device races a b wanted
      → List OneServed
  chains_of_busy a b wanted r =
      let serves = r.run.serves in
      record { before = r.run.opened; behind = serves.first; serves = serves.one }
      ∷ chains_served serves.first Drained r.last serves.more

  abbrev pub chains_of_others : (a : Standing Ring State) (rounds : List (Round Ring State)) (b : Standing Ring State)
      → AreBusyRounds kind device races a rounds b → List OneServed
  chains_of_others a [] b r = []
  chains_of_others a (x ∷ rounds) b r =
      chains_of_busy a x.after x.wanted r.0 ++ chains_of_others x.after rounds b r.1

  abbrev pub chains_of_first : (stage : Stage) (a b : Standing Ring State) (wanted : Bool)
      → IsFirstRound kind device races stage a b wanted → List OneServed
  chains_of_first First a b wanted r = chains_of_round First a Drained b wanted r
  chains_of_first Next a b wanted r = chains_of_round Next a Drained b wanted r
  chains_of_first Again a b wanted r = chains_of_busy a b wanted r

  abbrev pub chains_of_rounds : (stage : Stage) (a : Standing Ring State) (rounds : List (Round Ring State))
      (b : Standing Ring State) → AreRounds kind device races stage a rounds b → List OneServed
  chains_of_rounds stage a [] b r = []
  chains_of_rounds stage a (x ∷ rounds) b r =
      chains_of_first stage a x.after x.wanted r.0 ++ chains_of_others x.after rounds b r.1

  -- a service that ends by a fault or at its budget has chains in its last round, too
  abbrev pub chains_of_ending : (stage : Stage) (ending : Ending) (most : ℕ) (rounds : List (Round Ring State))
      (at b : Standing Ring State) (wanted : Bool) → EndsBy kind device races stage ending most rounds at b wanted
      → List OneServed
  chains_of_ending stage Settled most rounds at b wanted e = []
  chains_of_ending stage (Faulted fault) most rounds at b wanted e =
      chains_of_round (stage_behind stage rounds) at (Met fault) b e.asked e.round
  chains_of_ending stage More most rounds at b wanted (inl e) =
      chains_of_round (stage_behind stage rounds) at Limited b e.asked e.round
  chains_of_ending stage More most rounds at b wanted (inr e) = []

  abbrev pub chains_of : (stage : Stage) (most : ℕ) (a b : Standing Ring State) (ending : Ending) (wanted : Bool)
      → IsRacingService kind device races stage most a b ending wanted → List OneServed
  chains_of stage most a b ending wanted service =
      chains_of_rounds stage a service.rounds service.at service.serves
      ++ chains_of_ending stage ending most service.rounds service.at b wanted service.ends

  -- ---- a chain that its device leaves on offer

  module _ {E : Type 0} (Refuses : State → List ℕ → List Buffer → E → Type 0) where
    -- the same of it, up to where it was left
    pub record LeavesAlone
        (Leaves : (old new : Sightings) (ring : Ring) (buffers : List Buffer) (entry : Entry)
        → kind.IsOffered old new ring buffers entry → Type 0) (buffers : List Buffer) (entry : Entry) (why : E)
        (a b : Standing Ring State) (left : LeavesOne kind device races Refuses buffers entry why a b) : Type 0 where
      pub chain : Leaves a.sightings left.taken a.ring buffers entry left.offered
      pub bytes : All (IsSteady left.taken b.sightings) (addresses_of false buffers)

    -- This memory offers the chain, and by its bytes the device has this reason.
    pub record IsLeftAtOnce (m : Memory) (ring : Ring) (state : State) (buffers : List Buffer) (entry : Entry) (why : E)
        : Type 0 where
      pub offers : kind.still.offers m ring ≡ true
      pub offered : kind.still.Offers m ring buffers entry
      pub refuses : Refuses state (readable_of m buffers) buffers why
