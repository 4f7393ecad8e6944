-- A list of a packed ring that its guest leaves alone while it is taken is one that a memory offers.
use Rattle.std.proofs.Common.{◌≡◌, ◌∙◌, ℕ, ◌+◌, ◌%◌, ◌<◌, ◌↔◌, Bool, true, false, Some, None, List, [], ◌∷◌, refl, sym, ap, subst, arith}
use Rattle.std.specs.Prelude.{IsTrue, if◌then◌else◌}
use Rattle.guest_memory.specs.Memory.{Memory, put_num}
use Rattle.chain.specs.declared.segment.Buffer.{Buffer}
use Rattle.chain.specs.declared.fault.Fault.{Fault}
use Rattle.chain.specs.declared.state.RingState.{RingState}
use Rattle.chain.specs.Service.{Entry}
use Rattle.indirect.specs.declared.descriptor.Descriptor.{Descriptor}
use Rattle.indirect.proofs.Beside.{three_beside}
use Rattle.indirect.specs.Descriptors.{has_flag, indirect_flag, next_flag, packed_buffer}
use Rattle.indirect.specs.Walks.{Leads}
use Rattle.indirect.specs.Lists.{packed_tables}
use Rattle.packed_ring.specs.Ring.{descriptor_addr, flags_of, head_of, id_of, is_available, next_wrap, ring_descriptor, table_of, used_addr, used_flags, with_used, wrap_counter}
use Rattle.packed_ring.specs.Kind.{entry_of, packed_kind}
use Rattle.shared_memory.specs.Sightings.{Sightings, Loads, memory}
use Rattle.shared_memory.proofs.Sightings.{seen_still}
use Rattle.racing_ring.specs.Source.{Source}
use Rattle.racing_ring.specs.Table.{AreOne}
use Rattle.racing_ring.specs.Packed.{AreLeftAlone, AreRead, IsClosed, IsFaulty, IsGiven, IsLeftAlone, IsOffered, IsTold, are_available, read_buffer, read_descriptor, read_table, used_word}
use Rattle.racing_ring.proofs.Leaving.{fails_kept, list_kept, one_still, turn_still}
use Rattle.racing_ring.proofs.Standing.{stored_still}

-- what a buffer and flags say of the descriptor at a position
described : ℕ → ℕ → Buffer → ℕ → Descriptor
described n i buffer flags = record {
  buffer = buffer;
  indirect = has_flag flags indirect_flag;
  next = if has_flag flags next_flag then Some ((i + 1) % n) else None;
}

-- a descriptor that is left alone is told as it was read
pub described_one : (source : Source) (m : Memory) (desc n i : ℕ) → IsLeftAlone source m (descriptor_addr desc i)
    → read_descriptor source desc n i ≡ ring_descriptor m desc n i
unfolding described
described_one source m desc n i one =
    let addr = descriptor_addr desc i in
    ap (λ (b : Buffer). described n i b (flags_of source.flags_in addr)) one.buffer
    ∙ ap (described n i (packed_buffer m addr)) one.flags

tables_one : (source : ℕ → Source) (m : Memory) (desc n : ℕ) → AreLeftAlone source m desc n
    → AreOne n (read_table source desc n) (ring_descriptor m desc n)
tables_one source m desc n alone i below = described_one (source i) m desc n i (alone i below)

-- the descriptors stand as they were read when the memory is seen last
pub packed_offered_at : (old new : Sightings) (ring : RingState) (buffers : List Buffer) (entry : Entry)
    (r : IsOffered old new ring buffers entry)
    → AreLeftAlone r.source (memory new) ring.setup.desc ring.setup.size
    → packed_kind.Offers (memory new) ring buffers entry
packed_offered_at old new ring buffers entry r alone =
    let o = r.offers in
    record {
      count = o.count;
      last = o.last;
      list = list_kept packed_tables ring.setup.indirect (memory new) (read_table r.source ring.setup.desc ring.setup.size)
          (table_of (memory new) ring) ring.setup.size (head_of ring) o.count o.last buffers
          (tables_one r.source (memory new) ring.setup.desc ring.setup.size alone) o.list;
      entry_is = o.entry_is ∙ ap (λ (id : ℕ). entry_of id (o.count + 1)) (alone o.last o.list.comes.below).id;
    }

pub packed_faulty_at : (old new : Sightings) (ring : RingState) (fault : Fault) (r : IsFaulty old new ring fault)
    → AreLeftAlone r.source (memory new) ring.setup.desc ring.setup.size
    → packed_kind.HasFault (memory new) ring fault
packed_faulty_at old new ring fault r alone =
    fails_kept packed_tables ring.setup.indirect (memory new) (read_table r.source ring.setup.desc ring.setup.size)
    (table_of (memory new) ring) ring.setup.size (head_of ring) fault
    (tables_one r.source (memory new) ring.setup.desc ring.setup.size alone) r.fails

-- where a list leads to an index of the ring, it begins with one
pub first_below : (t : ℕ → Descriptor) (n h i : ℕ) (front : List ℕ) → Leads t n h front i → i < n → h < n
first_below t n h i [] leads below = let same : h ≡ i = leads in omega (arith, same, below)
first_below t n h i (x ∷ front) leads below = omega (arith, leads.0, leads.1.below)

pub packed_available_at : (old new : Sightings) (ring : RingState) (buffers : List Buffer) (entry : Entry)
    (r : IsOffered old new ring buffers entry)
    → AreLeftAlone r.source (memory new) ring.setup.desc ring.setup.size
    → is_available (memory new) ring ≡ true
packed_available_at old new ring buffers entry r alone =
    let list = r.offers.list in
    let below = first_below (read_table r.source ring.setup.desc ring.setup.size) ring.setup.size (head_of ring)
    r.offers.last list.reached.front list.reached.leads list.comes.below in
    ap (λ (flags : ℕ). are_available flags (next_wrap ring)) (sym (alone (head_of ring) below).flags) ∙ r.read.available

-- all that a guest which stands still is seen as is one memory
alone_still : (old new : Sightings) (source : ℕ → Source) (desc n h wrap : ℕ) → Loads false old new
    → AreRead old new desc n h wrap source → AreLeftAlone source (memory new) desc n
alone_still old new source desc n h wrap loads r i below =
    let s = source i in
    let both = turn_still old new r.first_seen.place s loads r.first_seen.from (r.sources i below) in
    let last = sym (one_still old new loads) in
    let addr = descriptor_addr desc i in
    record {
      buffer = ap (λ (m : Memory). read_buffer (record { flags_in = m; addr_in = s.addr_in }) addr) (both.0 ∙ last)
          ∙ ap (λ (m : Memory). read_buffer (record { flags_in = memory new; addr_in = m }) addr) (both.1 ∙ last);
      id = ap (λ (m : Memory). id_of m addr) (both.0 ∙ last);
      flags = ap (λ (m : Memory). flags_of m addr) (both.0 ∙ last);
    }

pub packed_offered_still : (old new : Sightings) (ring : RingState) (buffers : List Buffer) (entry : Entry)
    → Loads false old new → IsOffered old new ring buffers entry
    → packed_kind.Offers (memory old) ring buffers entry
packed_offered_still old new ring buffers entry loads r =
    subst (λ (m : Memory). packed_kind.Offers m ring buffers entry) (one_still old new loads)
    (packed_offered_at old new ring buffers entry r
    (alone_still old new r.source ring.setup.desc ring.setup.size (head_of ring) (next_wrap ring) loads r.read))

pub packed_faulty_still : (old new : Sightings) (ring : RingState) (fault : Fault) → Loads false old new
    → IsFaulty old new ring fault → packed_kind.HasFault (memory old) ring fault
packed_faulty_still old new ring fault loads r =
    subst (λ (m : Memory). packed_kind.HasFault m ring fault) (one_still old new loads)
    (packed_faulty_at old new ring fault r
    (alone_still old new r.source ring.setup.desc ring.setup.size (head_of ring) (next_wrap ring) loads r.read))

pub packed_told_still : (old new : Sightings) (ring : RingState) (offers : Bool) → Loads false old new
    → IsTold old new ring offers → offers ≡ packed_kind.offers (memory old) ring
packed_told_still old new ring offers loads t =
    t.told ∙ ap (λ (m : Memory). packed_kind.offers m ring) (seen_still old new t.head_in loads t.head_seen)

pub packed_given_still : (old new : Sightings) (ring : RingState) (id len : ℕ) (wrote : Bool)
    → IsGiven false old new ring id len wrote → memory new ≡ with_used (memory old) ring id len wrote
packed_given_still old new ring id len wrote g =
    let addr = used_addr ring in
    let flags = used_flags (wrap_counter ring) wrote in
    let id_at : addr + 8 + 4 ≡ addr + 12 = omega arith in
    let flags_at : addr + 8 + 4 + 2 ≡ addr + 14 = omega arith in
    three_beside (memory old) (memory new) (addr + 8) (used_word flags id len) len id flags
    (stored_still old new (addr + 8) 8 (used_word flags id len) g.at_once) refl g.there g.len_fits g.id_fits
    ∙ ap (λ (a : ℕ). put_num (put_num (put_num (memory old) (addr + 8) 4 len) a 2 id) (addr + 8 + 4 + 2) 2 flags) id_at
    ∙ ap (λ (a : ℕ). put_num (put_num (put_num (memory old) (addr + 8) 4 len) (addr + 12) 2 id) a 2 flags) flags_at

pub packed_closed_still : (old new : Sightings) (ring : RingState) (wanted : Bool) → IsClosed false old new ring wanted
    → memory new ≡ packed_kind.closed (memory old) ring
packed_closed_still old new ring wanted c =
    one_still c.written new c.reads ∙ stored_still old c.written ring.setup.device 4 0 c.closing

pub packed_wanted_still : (old new : Sightings) (ring : RingState) (wanted : Bool) → IsClosed false old new ring wanted
    → IsTrue wanted ↔ packed_kind.Wants (memory new) ring
packed_wanted_still old new ring wanted c = c.wants
