-- What the laws say.
use Rattle.std.specs.Prelude.{◌≡◌, ◌↔◌, ◌-◌, ℕ, Bool, true, IsTrue, List, [], ◌∷◌}
use Rattle.guest_memory.specs.Memory.{Memory, put}
use Rattle.chain.specs.declared.segment.Buffer.{Buffer}
use Rattle.chain.specs.declared.segment.Segment.{Segment}
use Rattle.chain.specs.Service.{Entry, Kind}
use Rattle.chain.specs.declared.state.RingState.{RingState}
use Rattle.split_ring.specs.Kind as split
use Rattle.split_ring.specs.declared.ring.Token as split_tokens
use Rattle.packed_ring.specs.Kind as packed
use Rattle.packed_ring.specs.declared.ring.Token as packed_tokens
use Rattle.block_device.specs.declared.device.BlockDevice.{BlockDevice}
use Rattle.block_device.specs.declared.operation.Verdict.{Verdict}
use Rattle.block_device.specs.declared.request.Request.{Request}
use Rattle.block_device.specs.Asking.{found_by, status_by, used_by}
use Rattle.block_device.specs.Operation.{IsToldToHost, operation_of, runs_for}
use Rattle.block_device.specs.Request.{code_of}
use Rattle.shared_memory.specs.Sightings.{Sightings, memory}
use Rattle.block_device.specs.Hosting.{hosted_device}
use Rattle.racing_service.specs.declared.stage.Stage.{Stage}
use Rattle.racing_service.specs.LeftAlone.{LeavesAlone}
use Rattle.racing_service.specs.Queue.{RacingKind}
use Rattle.racing_service.specs.Service.{Standing}
use Rattle.racing_disk.specs.Telling.{HasStatus, IsLeft}
use Rattle.racing_hosted_disk.specs.Looking.{AsksIn}
use Rattle.block_device.specs.Tags.{InFlight}

abbrev pub SplitToken : Type 0
SplitToken = split_tokens.Token

abbrev pub PackedToken : Type 0
PackedToken = packed_tokens.Token

abbrev pub split_entry : SplitToken → Entry
split_entry token = split.entry_of token.head

abbrev pub packed_entry : PackedToken → Entry
packed_entry token = packed.entry_of token.id token.length

abbrev pub split_taken : RingState → SplitToken → Type 0
split_taken ring token = split.IsTaken ring token

abbrev pub packed_taken : RingState → PackedToken → Type 0
packed_taken ring token = packed.IsTaken ring token

-- The chain of these buffers is on offer in this memory, and of it the host is told what block_device says of a guest that
-- stands still.
pub record IsToldOf {Ring T : Type 0} (kind : Kind Ring) (entry_of : T → Entry) (device : BlockDevice) (stable : Bool)
    (m : Memory) (ring : Ring) (buffers : List Buffer) (here : InFlight T) : Type 0 where
  pub request : Request
  pub kept : List Segment
  pub offered : kind.Offers m ring buffers (entry_of here.flight.token)
  pub told : IsToldToHost device m buffers request kept
  pub operation_is : here.flight.operation ≡ operation_of stable request
  pub runs_are : here.runs ≡ runs_for request m buffers
  pub place : HasStatus buffers here.flight.status here.flight.writable

-- The chain of this flight lands in this memory as block_device and its kind of ring say of a guest that stands still: its
-- status is written, then its used entry, and the queue is closed.
pub record LandsAsOne {Ring T : Type 0} (kind : Kind Ring) (entry_of : T → Entry) (verdict : Verdict) (here : InFlight T)
    (old new : Memory) (before after : Ring) (wanted : Bool) : Type 0 where
  pub done : Memory
  pub given : Memory
  pub len : ℕ
  pub behind : Ring
  pub status : done ≡ put old here.flight.status (code_of (status_by verdict) ∷ [])
  pub len_is : len ≡ used_by (found_by here.flight.operation.kind verdict (here.flight.writable - 1)) here.flight.writable
  pub used : given ≡ kind.used done before (entry_of here.flight.token) len true
  pub landed : behind ≡ kind.landed before (entry_of here.flight.token)
  pub closed : new ≡ kind.closed given behind
  pub wants : IsTrue wanted ↔ kind.Wants new behind
  pub shut : after ≡ kind.shut behind

-- ---- a chain that its driver leaves alone while it is taken

module _ {Ring T : Type 0} (kind : RacingKind Ring) (entry_of : T → Entry) (IsTaken : Ring → T → Type 0)
    (device : BlockDevice) (races : Bool) (stage : Stage) (most : ℕ) (stable : Bool) (here : InFlight T)
    (a b : Standing Ring (Unit {0})) (wanted : Bool)
    (asks : AsksIn kind entry_of IsTaken device races stage most stable here a b wanted) where
  -- what is taken of the chain stands as it was read, and each readable byte stays while it is judged
  abbrev pub IsAskedAlone :
      ((old new : Sightings) (ring : Ring) (buffers : List Buffer) (entry : Entry)
      → kind.IsOffered old new ring buffers entry → Type 0) → Type 0
  IsAskedAlone Leaves =
      let up = asks.finds.finds.service.leaves.serves in
      LeavesAlone kind (hosted_device device) races
      (λ state readable buffers request. IsLeft device readable buffers request asks.finds.kept) Leaves asks.buffers
      (entry_of here.flight.token) asks.finds.request up.at asks.finds.at up.leaves

  -- the memory as it was seen once the chain was taken
  abbrev pub moment_asked : Memory
  moment_asked = memory asks.finds.finds.service.leaves.serves.leaves.taken
