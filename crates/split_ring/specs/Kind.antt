-- The split ring as a kind of ring: what a service of it is (2.7.6 to 2.7.8, 2.7.13).
use Rattle.std.specs.Prelude.{◌≡◌, ℕ, ◌+◌, ◌-◌, ◌*◌, ◌<◌, ◌≤◌, nat_lt, if◌then◌else◌, Some, None}
use Rattle.guest_memory.specs.Memory.{put_num}
use Rattle.chain.specs.declared.fault.Fault.TheVariants.{Jump}
use Rattle.chain.specs.Service.{Entry, Kind}
use Rattle.chain.specs.Setup.{launched, shut, stopped}
use Rattle.chain.specs.declared.state.RingState.{RingState}
use Rattle.indirect.specs.Lists.{split_tables, ListOffers, ListFails}
use Rattle.suppression.specs.Places.{idx_modulus, place_back}
use Rattle.suppression.specs.Split.{SplitWants}
use Rattle.split_ring.specs.Ring.{table_of, on_offer, next_place, next_taken, head_of, with_used}
use Rattle.split_ring.specs.declared.ring.Token.{Token}

-- what a chain of this head gives back: the head, and one place
abbrev pub entry_of : ℕ → Entry
entry_of head = record { id = head; places = 1 }

-- the token names the chain at the next place, and the service may still take it
pub record IsTaken (ring : RingState) (token : Token) : Type 0 where
  pub place : token.place ≡ next_taken ring
  pub pending : 0 < ring.pending

-- the token names a chain in flight
pub record IsAhead (ring : RingState) (token : Token) : Type 0 where
  pub some : 1 ≤ ring.ahead

-- the ring once a chain in flight is used, in a service that takes no more
abbrev pub landed : RingState → RingState
landed ring = record ring {
  place = next_place ring;
  pending = 0;
  used_count = ring.used_count + 1;
  ahead = ring.ahead - 1;
}

-- the ring behind one more chain
abbrev pub past : RingState → RingState
past ring = record ring {
  place = next_place ring;
  pending = ring.pending - 1;
  used_count = ring.used_count + 1;
}

-- the first of the places that the service has passed; the ring's own place is behind the last
abbrev pub first_passed : RingState → ℕ
first_passed ring = place_back idx_modulus ring.place ring.used_count

-- the split ring as a kind of ring
abbrev pub split_kind : Kind RingState
split_kind = record {
  -- the driver can't have put more heads than the queue has descriptors, those in flight counted
  opening_fault = λ m ring.
      if nat_lt ring.setup.size (ring.ahead + on_offer m ring) then Some Jump else None;
  -- what a service may take is what is on offer as it opens, and nothing after a fault
  opened = λ m ring. record ring {
    pending = if nat_lt ring.setup.size (ring.ahead + on_offer m ring) then 0 else on_offer m ring;
    used_count = 0;
  };
  -- whether a chain is left of those that were on offer
  offers = λ m ring. nat_lt 0 ring.pending;
  -- the chain on offer is the list of descriptors from the head at the ring's place, or that list has a fault
  Offers = λ m ring. ListOffers split_tables ring.setup.indirect m (table_of m ring) ring.setup.size
      (head_of m ring) (λ count last. entry_of (head_of m ring));
  HasFault = λ m ring. ListFails split_tables ring.setup.indirect m (table_of m ring) ring.setup.size
      (head_of m ring);
  -- whether its device wrote anything is of no account
  used = λ m ring entry len wrote. with_used m ring entry.id len;
  past = λ ring entry. past ring;
  launched = λ ring entry. launched 1 ring;
  landed = λ ring entry. landed ring;
  stopped = stopped;
  -- The closing writes: the driver is to notify of every chain, so the used flags are 0 (2.7.10); or, with
  -- VIRTIO_F_EVENT_IDX, of the next one, so avail_event is its place too.
  closed = λ m ring.
      let flags_written = put_num m ring.setup.device 2 0 in
      if ring.setup.event_idx then put_num flags_written (ring.setup.device + 4 + 8 * ring.setup.size) 2
      (next_taken ring) else flags_written;
  -- the driver wants a notification of the places that the service has passed
  Wants = λ m ring. SplitWants m ring.setup.driver ring.setup.size ring.setup.event_idx
      (first_passed ring) ring.used_count;
  shut = shut;
}
