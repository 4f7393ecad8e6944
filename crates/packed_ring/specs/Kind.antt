-- The packed ring as a kind of ring: what a service of it is (2.8.1 to 2.8.6, 2.8.14, 2.8.21).
use Rattle.std.specs.Prelude.{◌≡◌, ℕ, ◌+◌, ◌-◌, ◌*◌, ◌<◌, ◌≤◌, nat_lt, ◌&&◌, None}
use Rattle.guest_memory.specs.Memory.{put_num}
use Rattle.chain.specs.Service.{Entry, Kind}
use Rattle.chain.specs.Setup.{launched, shut, stopped}
use Rattle.chain.specs.declared.state.RingState.{RingState}
use Rattle.indirect.specs.Lists.{packed_tables, ListOffers, ListFails}
use Rattle.suppression.specs.Places.{Passed, place_back}
use Rattle.suppression.specs.Packed.{PackedWants}
use Rattle.packed_ring.specs.Ring.{descriptor_addr, id_of, table_of, head_of, is_available, next_taken, place_behind, with_used}
use Rattle.packed_ring.specs.declared.ring.Token.{Token}

-- what a list gives back: its id, and a place for each of its descriptors
abbrev pub entry_of : ℕ → ℕ → Entry
entry_of id length = record { id = id; places = length }

-- the token names a list at the next place that fits the ring, and the service may still take it
pub record IsTaken (ring : RingState) (token : Token) : Type 0 where
  pub place : token.place ≡ next_taken ring
  pub least : 0 < token.length
  pub most : token.length ≤ ring.setup.size
  pub pending : 0 < ring.pending

-- the token names a list in flight that fits the ring
pub record IsAhead (ring : RingState) (token : Token) : Type 0 where
  pub least : 0 < token.length
  pub most : token.length ≤ ring.setup.size
  pub some : token.length ≤ ring.ahead

-- the ring once a list of so many descriptors, which was in flight, is used, in a service that takes no more
abbrev pub landed : RingState → ℕ → RingState
landed ring length = record ring {
  place = place_behind ring length;
  pending = 0;
  used_count = ring.used_count + length;
  ahead = ring.ahead - length;
}

-- the ring behind a list of so many descriptors
abbrev pub past : RingState → ℕ → RingState
past ring length = record ring {
  place = place_behind ring length;
  pending = ring.pending - length;
  used_count = ring.used_count + length;
}

-- the first of the places that the service has passed; the ring's own place is behind the last
abbrev pub first_passed : RingState → ℕ
first_passed ring = place_back (2 * ring.setup.size) ring.place ring.used_count

-- the place is one of those that the service has passed
abbrev pub HasPassed : RingState → ℕ → Type 0
HasPassed ring place = Passed (2 * ring.setup.size) (first_passed ring) ring.used_count place

-- the packed ring as a kind of ring
abbrev pub packed_kind : Kind RingState
packed_kind = record {
  -- opening reads nothing, so it has no fault
  opening_fault = λ m ring. None;
  -- a service goes on until as many places as the queue has descriptors, or more, are passed or in flight
  opened = λ m ring. record ring { pending = ring.setup.size - ring.ahead; used_count = 0 };
  -- whether a list is on offer: the service goes on, and the descriptor at the next place is available
  offers = λ m ring. nat_lt 0 ring.pending && is_available m ring;
  -- The chain on offer is the list of descriptors from the next place on, or that list has a fault. Its id
  -- is that of the last one, and only the first has to be available.
  Offers = λ m ring. ListOffers packed_tables ring.setup.indirect m (table_of m ring) ring.setup.size
      (head_of ring) (λ count last. entry_of (id_of m (descriptor_addr ring.setup.desc last)) (count + 1));
  HasFault = λ m ring. ListFails packed_tables ring.setup.indirect m (table_of m ring) ring.setup.size
      (head_of ring);
  used = λ m ring entry len wrote. with_used m ring entry.id len wrote;
  past = λ ring entry. past ring entry.places;
  launched = λ ring entry. launched entry.places ring;
  landed = λ ring entry. landed ring entry.places;
  stopped = stopped;
  -- the closing write: the driver is to notify of every list, so the four bytes of the device event
  -- suppression structure are 0 (2.8.10, 2.8.14)
  closed = λ m ring. put_num m ring.setup.device 4 0;
  -- the driver wants a notification of the places that the service has passed
  Wants = λ m ring. PackedWants m ring.setup.driver ring.setup.size ring.setup.event_idx
      (first_passed ring) ring.used_count;
  shut = shut;
}
