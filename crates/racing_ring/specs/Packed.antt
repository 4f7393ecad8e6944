-- A packed ring whose guest may write it meanwhile: each call of a service by what the memory was seen as.
use Rattle.std.specs.Prelude.{◌≡◌, ◌↔◌, ℕ, ◌+◌, ◌*◌, ◌%◌, ◌^◌, ◌<◌, ◌≤◌, Bool, true, false, IsTrue, not, ◌&&◌, ◌==◌, List}
use Rattle.guest_memory.specs.Memory.{Memory, Inside, num}
use Rattle.chain.specs.declared.segment.Buffer.{Buffer}
use Rattle.chain.specs.declared.fault.Fault.{Fault}
use Rattle.chain.specs.declared.state.RingState.{RingState}
use Rattle.chain.specs.Service.{Entry}
use Rattle.indirect.specs.declared.descriptor.Descriptor.{Descriptor}
use Rattle.indirect.specs.Descriptors.{packed_buffer}
use Rattle.indirect.specs.Lists.{packed_tables, ListOffers, ListFails}
use Rattle.suppression.specs.Packed.{PackedWants}
use Rattle.packed_ring.specs.Ring.{avail_flag, bit_of, descriptor_addr, flags_of, head_of, id_of, next_wrap, ring_descriptor, used_addr, used_flag, used_flags, wrap_counter}
use Rattle.packed_ring.specs.Kind.{entry_of, first_passed, packed_kind}
use Rattle.shared_memory.specs.Sightings.{Sightings, Loads, SeenAs, Stores, memory}
use Rattle.racing_ring.specs.Source.{Source, IsSeenInTurn}

-- The source of a position is what its descriptor was read of. Each of the n was seen no earlier than a place, and all that
-- is told of a descriptor, its id and its flags too, is of its one source.
abbrev pub AreSources : ℕ → Sightings → ℕ → (ℕ → Source) → Type 0
AreSources begin new n source = (i : ℕ) → i < n → IsSeenInTurn begin new (source i)

-- the buffer of the descriptor at an address, as it was read of its source: len and flags are of one memory
abbrev pub read_buffer : Source → ℕ → Buffer
read_buffer source addr =
    let buffer = packed_buffer source.flags_in addr in
    record buffer { segment = record buffer.segment { addr = num source.addr_in addr 8 } }

-- the descriptor at a position of a ring of n, as it was read
abbrev pub read_descriptor : Source → ℕ → ℕ → ℕ → Descriptor
read_descriptor source desc n i =
    record (ring_descriptor source.flags_in desc n i) { buffer = read_buffer source (descriptor_addr desc i) }

-- the one at each position
abbrev pub read_table : (ℕ → Source) → ℕ → ℕ → ℕ → Descriptor
read_table source desc n i = read_descriptor (source i) desc n i

-- the entry of a list with so many descriptors before the last one, which is at a position
abbrev pub read_entry : (ℕ → Source) → ℕ → ℕ → ℕ → Entry
read_entry source desc count last = entry_of (id_of (source last).flags_in (descriptor_addr desc last)) (count + 1)

-- d is the descriptor of a source at a position of a ring, and these are its id and its flags; the source was seen just now
pub record IsCopied (old new : Sightings) (desc n i : ℕ) (d : Descriptor) (id flags : ℕ) : Type 0 where
  pub source : Source
  pub seen : IsSeenInTurn old.now new source
  pub descriptor : d ≡ read_descriptor source desc n i
  pub id_is : id ≡ id_of source.flags_in (descriptor_addr desc i)
  pub flags_is : flags ≡ flags_of source.flags_in (descriptor_addr desc i)

-- flags of an available descriptor at a wrap counter: AVAIL equals it, and USED doesn't (2.8.1)
abbrev pub are_available : ℕ → ℕ → Bool
are_available flags wrap = bit_of flags avail_flag == wrap && not (bit_of flags used_flag == wrap)

-- the descriptor at a position, as this memory has it, is available at a wrap counter
abbrev pub is_available_in : Memory → ℕ → ℕ → ℕ → Bool
is_available_in m desc position wrap = are_available (flags_of m (descriptor_addr desc position)) wrap

-- The descriptors of a list were read: by its flags the first one was available, and none was read before these flags. A
-- driver stores them behind the rest of its list (2.8.6).
pub record AreRead (old new : Sightings) (desc n h wrap : ℕ) (source : ℕ → Source) : Type 0 where
  pub first_seen : SeenAs old new (source h).flags_in
  pub available : is_available_in (source h).flags_in desc h wrap ≡ true
  pub sources : AreSources first_seen.place new n source

-- The list from a position has these buffers and this entry: each of its descriptors is that of its source. An indirect
-- table is the one that was seen last.
pub record IsListed (old new : Sightings) (negotiated : Bool) (desc n h wrap : ℕ) (buffers : List Buffer)
    (entry : Entry) : Type 0 where
  pub source : ℕ → Source
  pub read : AreRead old new desc n h wrap source
  pub offers : ListOffers packed_tables negotiated (memory new) (read_table source desc n) n h
      (read_entry source desc) buffers entry

-- or it has this fault
pub record IsListFaulty (old new : Sightings) (negotiated : Bool) (desc n h wrap : ℕ) (fault : Fault) : Type 0 where
  pub source : ℕ → Source
  pub read : AreRead old new desc n h wrap source
  pub fails : ListFails packed_tables negotiated (memory new) (read_table source desc n) n h fault

-- or its first descriptor wasn't available when it was read
pub record IsWithheld (old new : Sightings) (desc h wrap : ℕ) : Type 0 where
  pub head_in : Memory
  pub head_seen : SeenAs old new head_in
  pub withheld : is_available_in head_in desc h wrap ≡ false

-- the list that was taken is the one from the next list's place on, and has these buffers and this entry
abbrev pub IsOffered : Sightings → Sightings → RingState → List Buffer → Entry → Type 0
IsOffered old new ring buffers entry =
    IsListed old new ring.setup.indirect ring.setup.desc ring.setup.size (head_of ring) (next_wrap ring) buffers entry

-- or it has this fault
abbrev pub IsFaulty : Sightings → Sightings → RingState → Fault → Type 0
IsFaulty old new ring fault =
    IsListFaulty old new ring.setup.indirect ring.setup.desc ring.setup.size (head_of ring) (next_wrap ring) fault

-- whether a list was on offer, by the memory that the first descriptor was read of
pub record IsTold (old new : Sightings) (ring : RingState) (offers : Bool) : Type 0 where
  pub head_in : Memory
  pub head_seen : SeenAs old new head_in
  pub told : offers ≡ packed_kind.offers head_in ring

-- the second word of a used descriptor: its len, its id and its flags (2.8.13)
abbrev pub used_word : ℕ → ℕ → ℕ → ℕ
used_word flags id len = flags * 2 ^ 48 + id * 2 ^ 32 + len

-- A list was given back in the descriptor at the ring's place: its len, its id and the flags by which the driver knows
-- that it is used were stored at once, in one word and by one access (2.8.1, 2.8.4). Whether any byte was written is among them.
pub record IsGiven (races : Bool) (old new : Sightings) (ring : RingState) (id len : ℕ) (wrote : Bool) : Type 0 where
  pub id_fits : id < 2 ^ 16
  pub len_fits : len < 2 ^ 32
  pub there : Inside (memory old) (used_addr ring + 8) 8
  pub at_once : Stores races old new (used_addr ring + 8) 8 (used_word (used_flags (wrap_counter ring) wrote) id len)

-- A service was closed: the closing write was stored, and only then what the driver wants was read, its flags and its
-- place at one access (2.8.10). So a driver that asks for a notification behind it is seen, or sees it.
pub record IsClosed (races : Bool) (old new : Sightings) (ring : RingState) (wanted : Bool) : Type 0 where
  pub written : Sightings
  pub closing : Stores races old written ring.setup.device 4 0
  pub reads : Loads races written new
  pub wants : IsTrue wanted ↔ PackedWants (memory new) ring.setup.driver ring.setup.size ring.setup.event_idx
      (first_passed ring) ring.used_count

-- a descriptor stands in a memory as it was read of its source: its buffer, its id and its flags
pub record IsLeftAlone (source : Source) (m : Memory) (addr : ℕ) : Type 0 where
  pub buffer : read_buffer source addr ≡ packed_buffer m addr
  pub id : id_of source.flags_in addr ≡ id_of m addr
  pub flags : flags_of source.flags_in addr ≡ flags_of m addr

-- each descriptor of a ring of n does
abbrev pub AreLeftAlone : (ℕ → Source) → Memory → ℕ → ℕ → Type 0
AreLeftAlone source m desc n = (i : ℕ) → i < n → IsLeftAlone (source i) m (descriptor_addr desc i)

-- a descriptor is one in two memories: its buffer, its id and its flags
pub record IsOneDescriptor (m m' : Memory) (addr : ℕ) : Type 0 where
  pub buffer : packed_buffer m addr ≡ packed_buffer m' addr
  pub id : id_of m addr ≡ id_of m' addr
  pub flags : flags_of m addr ≡ flags_of m' addr

-- A driver publishes a list from the position h on, whose last descriptor has so many before it, at some access or before
-- the call: until then its first descriptor isn't available (2.8.6), and from then on each of them stands.
pub record IsPublished (old new : Sightings) (desc n h wrap count : ℕ) : Type 0 where
  pub moment : ℕ
  pub withheld : (k : ℕ) → old.now ≤ k → k < moment → is_available_in (new.at k) desc h wrap ≡ false
  pub stands : (k i : ℕ) → moment ≤ k → k ≤ new.now → i ≤ count
      → IsOneDescriptor (new.at k) (memory new) (descriptor_addr desc ((h + i) % n))
