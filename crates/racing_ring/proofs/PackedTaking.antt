-- A list of a packed ring that was taken, or withheld.
use Rattle.std.proofs.Common.{◌≡◌, ℕ, Bool, true, false, List, refl, sym, arith}
use Rattle.std.specs.Prelude.{◌&&◌, nat_lt}
use Rattle.chain.specs.declared.segment.Buffer.{Buffer}
use Rattle.chain.specs.declared.fault.Fault.{Fault}
use Rattle.chain.specs.declared.state.RingState.{RingState}
use Rattle.chain.specs.Buffers.{Good}
use Rattle.chain.specs.Service.{Entry}
use Rattle.indirect.specs.Lists.{packed_tables}
use Rattle.indirect.proofs.Listing.{list_is_good, packed_keeps_good}
use Rattle.packed_ring.specs.Ring.{head_of, next_wrap}
use Rattle.shared_memory.specs.Sightings.{Sightings, memory}
use Rattle.racing_ring.specs.Packed.{IsFaulty, IsListed, IsListFaulty, IsOffered, IsTold, IsWithheld, read_table}

module _ (old new : Sightings) (ring : RingState) (n h wrap : ℕ) (size : n ≡ ring.setup.size) (head : h ≡ head_of ring)
    (counter : next_wrap ring ≡ wrap) where
  -- what was walked from the next list's place on is of the ring
  pub offered_of : (buffers : List Buffer) (entry : Entry)
      → IsListed old new ring.setup.indirect ring.setup.desc n h wrap buffers entry → IsOffered old new ring buffers entry
  offered_of buffers entry x = rw (size, head, ← counter) at x

  pub faulty_of : (fault : Fault) → IsListFaulty old new ring.setup.indirect ring.setup.desc n h wrap fault
      → IsFaulty old new ring fault
  faulty_of fault x = rw (size, head, ← counter) at x

  -- and none was on offer where it was withheld
  pub told_withheld : IsWithheld old new ring.setup.desc h wrap → IsTold old new ring false
  told_withheld x =
      let w : IsWithheld old new ring.setup.desc (head_of ring) (next_wrap ring) = rw (head, ← counter) at x in
      record { head_in = w.head_in; head_seen = w.head_seen; told = by (nat_lt 0 ring.pending) _ w.withheld }
    where
      by : (a b : Bool) → b ≡ false → false ≡ (a && b)
      by false b e = refl
      by true b e = sym e

-- and none is where the service goes no further
pub told_none : (now : Sightings) (ring : RingState) → ring.pending ≡ 0 → IsTold now now ring false
told_none now ring none = record {
  head_in = memory now;
  head_seen = record { place = now.now; from = omega arith; to = omega arith; is = refl };
  told = rw none refl;
}

-- the buffers of a list are good
pub listed_good : (old new : Sightings) (negotiated : Bool) (desc n h wrap : ℕ) (buffers : List Buffer) (entry : Entry)
    → IsListed old new negotiated desc n h wrap buffers entry → Good (memory new) buffers
listed_good old new negotiated desc n h wrap buffers entry r =
    list_is_good packed_tables packed_keeps_good negotiated (memory new) (read_table r.source desc n) n h r.offers.count
    r.offers.last buffers r.offers.list
