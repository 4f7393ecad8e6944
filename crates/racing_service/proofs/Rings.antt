-- Both kinds of racing ring, of a guest that stands still.
use Rattle.std.proofs.Common.{◌≡◌, ◌∙◌, ℕ, ◌+◌, ◌*◌, ◌<◌, Bool, true, false, refl, sym, ap, arith}
use Rattle.std.specs.Prelude.{if◌then◌else◌, nat_lt}
use Rattle.std.proofs.lemmas.Bool.Decides.{nat_tests}
use Rattle.guest_memory.specs.Memory.{Memory, SameRange, put_num}
use Rattle.guest_memory.proofs.Ranges.{put_range, same_trans}
use Rattle.chain.specs.declared.state.RingState.{RingState}
use Rattle.chain.specs.declared.fault.Fault.{Fault}
use Rattle.chain.proofs.Servicing.{both}
use Rattle.split_ring.specs.Ring as split
use Rattle.split_ring.specs.Kind.{split_kind}
use Rattle.packed_ring.specs.Ring as packed
use Rattle.packed_ring.specs.Kind.{packed_kind}
use Rattle.shared_memory.specs.Sightings.{Sightings, Loads, memory}
use Rattle.shared_memory.proofs.Sightings.{seen_still}
use Rattle.racing_ring.specs.Packed.{are_available}
use Rattle.racing_ring.proofs.Leaving.{faulty_still, offered_still}
use Rattle.racing_ring.proofs.Standing.{closed_still, given_still, wanted_still}
use Rattle.racing_ring.proofs.Taking.{walked_good}
use Rattle.racing_ring.proofs.PackedTaking.{listed_good}
use Rattle.racing_ring.proofs.PackedLeaving.{packed_closed_still, packed_faulty_still, packed_given_still, packed_offered_still, packed_told_still, packed_wanted_still}
use Rattle.racing_service.specs.Queue.{racing_packed, racing_split}
use Rattle.racing_ring.specs.Lying.{split_lies}
use Rattle.racing_service.proofs.Rounds.{StandsStill}

-- a number that is stored leaves the range
num_range : (m : Memory) (a k v : ℕ) → SameRange m (put_num m a k v)
num_range m a k v = put_range m a _

two_ranges : (m : Memory) (a k v b j w : ℕ) → SameRange m (put_num (put_num m a k v) b j w)
two_ranges m a k v b j w =
    same_trans m (put_num m a k v) (put_num (put_num m a k v) b j w) (num_range m a k v)
    (num_range (put_num m a k v) b j w)

three_ranges : (m : Memory) (a k v b j w c i x : ℕ) → SameRange m (put_num (put_num (put_num m a k v) b j w) c i x)
three_ranges m a k v b j w c i x =
    let n = put_num (put_num m a k v) b j w in
    same_trans m n (put_num n c i x) (two_ranges m a k v b j w) (num_range n c i x)

-- a chain may be taken
may_take : (pending : ℕ) → 0 < pending → nat_lt 0 pending ≡ true
may_take pending some = grind (arith, nat_tests, some)

-- ---- the split ring

pub record IsSplitSound (m : Memory) (ring : RingState) : Type 0 where
  pub lies : split.LiesIn m ring.setup
  pub some : 0 < ring.setup.size

split_closed_range : (m : Memory) (ring : RingState) → SameRange m (split_kind.closed m ring)
split_closed_range m ring = by ring.setup.event_idx
  where
    by : (b : Bool) → SameRange m (if b then put_num (put_num m ring.setup.device 2 0)
        (ring.setup.device + 4 + 8 * ring.setup.size) 2 (split.next_taken ring) else put_num m ring.setup.device 2 0)
    by true = two_ranges m ring.setup.device 2 0 (ring.setup.device + 4 + 8 * ring.setup.size) 2 (split.next_taken ring)
    by false = num_range m ring.setup.device 2 0

pub split_stands_still : StandsStill racing_split IsSplitSound
split_stands_still = record {
  told = λ old new ring offers loads told. told;
  offered = offered_still;
  good = λ old new ring buffers entry o.
      walked_good o.head_seen.place new ring.setup.indirect ring.setup.desc ring.setup.size (split.head_of o.head_in ring)
      buffers o.walked;
  met = λ old new ring fault sound loads h. may_take ring.pending h.0;
  faulty = λ old new ring fault loads h. faulty_still old new ring fault loads h.1;
  given = λ old new ring entry len any sound g. given_still old new ring entry.id len sound.lies sound.some g.0 g.1;
  closed = closed_still;
  wants = wanted_still;
  used_range = λ m ring entry len any. three_ranges m (split.used_entry ring) 4 entry.id (split.used_entry ring + 4) 4 len
      (ring.setup.device + 2) 2 (split.next_place ring);
  closed_range = split_closed_range;
  in_range = λ m n ring same sound. record { lies = split_lies m n ring.setup same sound.lies; some = sound.some };
  sound_opened = λ m n ring sound. record { lies = sound.lies; some = sound.some };
  sound_past = λ m ring entry sound. record { lies = sound.lies; some = sound.some };
  sound_stopped = λ m ring sound. record { lies = sound.lies; some = sound.some };
  sound_shut = λ m ring sound. record { lies = sound.lies; some = sound.some };
  shut_opened = λ m ring. refl;
}

-- ---- the packed ring

pub record IsPackedSound (m : Memory) (ring : RingState) : Type 0 where
  pub some : 0 < ring.setup.size

packed_met : (old new : Sightings) (ring : RingState) (fault : Fault) → IsPackedSound (memory old) ring
    → Loads false old new → racing_packed.IsFaulty old new ring fault → packed_kind.offers (memory old) ring ≡ true
packed_met old new ring fault sound loads h =
    let first = h.1.source (packed.head_of ring) in
    let same = seen_still old new first.flags_in loads h.1.read.first_seen in
    let available : packed.is_available (memory old) ring ≡ true =
    ap (λ (m : Memory). are_available (packed.flags_of m (packed.head_addr ring)) (packed.next_wrap ring)) (sym same)
    ∙ h.1.read.available in
    both (nat_lt 0 ring.pending) (packed.is_available (memory old) ring) (may_take ring.pending h.0) available

pub packed_stands_still : StandsStill racing_packed IsPackedSound
packed_stands_still = record {
  told = packed_told_still;
  offered = packed_offered_still;
  good = λ old new ring buffers entry o. listed_good old new ring.setup.indirect ring.setup.desc ring.setup.size
      (packed.head_of ring) (packed.next_wrap ring) buffers entry o;
  met = packed_met;
  faulty = λ old new ring fault loads h. packed_faulty_still old new ring fault loads h.1;
  given = λ old new ring entry len any sound g. packed_given_still old new ring entry.id len any g;
  closed = packed_closed_still;
  wants = packed_wanted_still;
  used_range = λ m ring entry len any. three_ranges m (packed.used_addr ring + 8) 4 len (packed.used_addr ring + 12) 2
      entry.id (packed.used_addr ring + 14) 2 (packed.used_flags (packed.wrap_counter ring) any);
  closed_range = λ m ring. num_range m ring.setup.device 4 0;
  in_range = λ m n ring same sound. record { some = sound.some };
  sound_opened = λ m n ring sound. record { some = sound.some };
  sound_past = λ m ring entry sound. record { some = sound.some };
  sound_stopped = λ m ring sound. record { some = sound.some };
  sound_shut = λ m ring sound. record { some = sound.some };
  shut_opened = λ m ring. refl;
}
