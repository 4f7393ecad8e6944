-- A chain that was taken: its head, and then the walk from it.
use Rattle.std.proofs.Common.{◌≡◌, ℕ, Bool, List, ap, sym, arith}
use Rattle.chain.specs.declared.segment.Buffer.{Buffer}
use Rattle.chain.specs.declared.fault.Fault.{Fault}
use Rattle.chain.specs.declared.state.RingState.{RingState}
use Rattle.chain.specs.Buffers.{Good}
use Rattle.indirect.specs.Lists.{split_tables}
use Rattle.indirect.proofs.Listing.{list_is_good, split_keeps_good}
use Rattle.split_ring.specs.Ring.{LiesIn, head_of}
use Rattle.split_ring.specs.Kind.{entry_of}
use Rattle.shared_memory.specs.Sightings.{Sightings, Loads, SeenAs, memory}
use Rattle.racing_ring.proofs.Lying.{lies_loads}
use Rattle.racing_ring.specs.Walk.{IsWalked, IsWalkFaulty}
use Rattle.racing_ring.specs.Split.{IsOffered, IsFaulty}

module _ (races : Bool) (old mid new : Sightings) (ring : RingState) (head : ℕ) (first : Loads races old mid)
    (rest : Loads races mid new) (is : head ≡ head_of (memory mid) ring) where
  abbrev was_head : SeenAs old new (memory mid)
  was_head = record { place = mid.now; from = first.later; to = rest.later; is = sym (rest.kept mid.now (omega arith)) }

  pub taken : (buffers : List Buffer)
      → IsWalked mid.now new ring.setup.indirect ring.setup.desc ring.setup.size head buffers
      → IsOffered old new ring buffers (entry_of head)
  taken buffers w = record {
    head_in = memory mid;
    head_seen = was_head;
    walked = record {
      table = w.table;
      table_seen = w.table_seen;
      count = w.count;
      last = w.last;
      resolves = rw (← is) w.resolves;
    };
    entry_is = ap entry_of is;
  }

  pub taken_faulty : (fault : Fault)
      → IsWalkFaulty mid.now new ring.setup.indirect ring.setup.desc ring.setup.size head fault
      → IsFaulty old new ring fault
  taken_faulty fault w = record {
    head_in = memory mid;
    head_seen = was_head;
    walked = record {
      table = w.table;
      table_seen = w.table_seen;
      fails = rw (← is) w.fails;
    };
  }

  pub lies_taken : LiesIn (memory old) ring.setup → LiesIn (memory new) ring.setup
  lies_taken lies = lies_loads races mid new ring.setup rest (lies_loads races old mid ring.setup first lies)

-- the buffers of a walk are good
pub walked_good : (begin : ℕ) (new : Sightings) (negotiated : Bool) (addr n head : ℕ) (buffers : List Buffer)
    → IsWalked begin new negotiated addr n head buffers → Good (memory new) buffers
walked_good begin new negotiated addr n head buffers w =
    list_is_good split_tables split_keeps_good negotiated (memory new) w.table n head w.count w.last buffers w.resolves
