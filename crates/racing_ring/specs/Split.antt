-- A split ring whose guest may write it meanwhile: each call of a service by what the memory was seen as.
use Rattle.std.specs.Prelude.{◌≡◌, ◌↔◌, ℕ, ◌+◌, ◌*◌, ◌^◌, Bool, true, false, IsTrue, List}
use Rattle.guest_memory.specs.Memory.{Memory}
use Rattle.chain.specs.declared.segment.Buffer.{Buffer}
use Rattle.chain.specs.declared.fault.Fault.{Fault}
use Rattle.chain.specs.declared.state.RingState.{RingState}
use Rattle.chain.specs.Service.{Entry}
use Rattle.split_ring.specs.Ring.{head_of, next_place, next_taken, used_entry}
use Rattle.split_ring.specs.Kind.{entry_of, first_passed}
use Rattle.suppression.specs.Split.{SplitWants}
use Rattle.shared_memory.specs.Sightings.{Sightings, Loads, SeenAs, Stores, memory}
use Rattle.racing_ring.specs.Walk.{IsWalked, IsWalkFaulty}

-- the chain that was taken has these buffers and this entry: it is that of the head which stood in the available entry
-- at some access, and no descriptor was read before the head
pub record IsOffered (old new : Sightings) (ring : RingState) (buffers : List Buffer) (entry : Entry) : Type 0 where
  pub head_in : Memory
  pub head_seen : SeenAs old new head_in
  pub walked : IsWalked head_seen.place new ring.setup.indirect ring.setup.desc ring.setup.size (head_of head_in ring) buffers
  pub entry_is : entry ≡ entry_of (head_of head_in ring)

-- or it has this fault
pub record IsFaulty (old new : Sightings) (ring : RingState) (fault : Fault) : Type 0 where
  pub head_in : Memory
  pub head_seen : SeenAs old new head_in
  pub walked : IsWalkFaulty head_seen.place new ring.setup.indirect ring.setup.desc ring.setup.size (head_of head_in ring) fault

-- A chain was given back: its used entry was stored, id and len side by side, and only then the used idx (2.7.8). Each of both
-- stores is one access, so the idx wasn't stored before the entry.
pub record IsGiven (races : Bool) (old new : Sightings) (ring : RingState) (head len : ℕ) : Type 0 where
  pub between : Sightings
  pub entry : Stores races old between (used_entry ring) 8 (len * 2 ^ 32 + head)
  pub idx : Stores races between new (ring.setup.device + 2) 2 (next_place ring)

-- with VIRTIO_F_EVENT_IDX the place of the next chain was stored as avail_event (2.7.10)
abbrev pub StoresEvent : Bool → Bool → Sightings → Sightings → RingState → Type 0
StoresEvent false races old new ring = new ≡ old
StoresEvent true races old new ring =
    Stores races old new (ring.setup.device + 4 + 8 * ring.setup.size) 2 (next_taken ring)

-- the closing writes were stored: used flags of 0, and then that event
pub record IsClosing (races : Bool) (old new : Sightings) (ring : RingState) : Type 0 where
  pub flagged : Sightings
  pub flags : Stores races old flagged ring.setup.device 2 0
  pub event : StoresEvent ring.setup.event_idx races flagged new ring

-- A service was closed: the closing writes were stored, and only then what the driver wants was read. So a driver that asks
-- for a notification behind them is seen, or sees them.
pub record IsClosed (races : Bool) (old new : Sightings) (ring : RingState) (wanted : Bool) : Type 0 where
  pub written : Sightings
  pub closing : IsClosing races old written ring
  pub reads : Loads races written new
  pub wants : IsTrue wanted ↔ SplitWants (memory new) ring.setup.driver ring.setup.size ring.setup.event_idx
      (first_passed ring) ring.used_count
