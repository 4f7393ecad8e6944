-- A list that its driver publishes while it is taken is the one that stands from then on.
use Rattle.std.proofs.Common.{◌≡◌, ◌∙◌, ℕ, ◌+◌, ◌%◌, ◌<◌, ◌≤◌, Bool, true, false, List, [], ◌∷◌, length, sym, ap, subst, arith, inl, inr}
use Rattle.std.proofs.Math.Nat.{mod-add-mod}
use Rattle.std.proofs.lemmas.Nat.{mod_below}
use Rattle.std.proofs.lemmas.Bool.{cases_lt}
use Rattle.guest_memory.specs.Memory.{Memory, num}
use Rattle.chain.specs.declared.segment.Buffer.{Buffer}
use Rattle.chain.specs.declared.state.RingState.{RingState}
use Rattle.chain.specs.Service.{Entry}
use Rattle.indirect.specs.Descriptors.{packed_buffer}
use Rattle.indirect.specs.Walks.{Leads, first_of}
use Rattle.indirect.specs.Lists.{packed_tables}
use Rattle.packed_ring.specs.Ring.{descriptor_addr, flags_of, head_of, id_of, is_available, next_wrap, ring_descriptor, table_of}
use Rattle.packed_ring.specs.Kind.{entry_of, packed_kind}
use Rattle.shared_memory.specs.Sightings.{Sightings, memory}
use Rattle.racing_ring.specs.Source.{Source, IsSeenInTurn}
use Rattle.racing_ring.specs.Packed.{AreRead, IsLeftAlone, IsOffered, IsOneDescriptor, IsPublished, are_available, is_available_in, read_table}
use Rattle.racing_ring.proofs.Tables.{Agree}
use Rattle.racing_ring.proofs.Positions.{next_is, start_at}
use Rattle.racing_ring.proofs.Leaving.{list_of_members}
use Rattle.racing_ring.proofs.PackedLeaving.{described_one, first_below}

-- a buffer with another address
with_addr : Buffer → ℕ → Buffer
with_addr b addr = record b { segment = record b.segment { addr = addr } }

-- both words of a descriptor stand as they do in a memory
pub both_stand : (new : Sightings) (begin addr : ℕ) (m : Memory) (s : Source) (seen : IsSeenInTurn begin new s)
    → IsOneDescriptor (new.at seen.flags_at) m addr → IsOneDescriptor (new.at seen.addr_at) m addr
    → IsLeftAlone s m addr
unfolding with_addr
both_stand new begin addr m s seen flags first = record {
  buffer = ap (λ (b : Buffer). with_addr b (num s.addr_in addr 8))
      (ap (λ (m : Memory). packed_buffer m addr) seen.flags_is ∙ flags.buffer)
      ∙ ap (with_addr (packed_buffer m addr))
      (ap (λ (m : Memory). num m addr 8) seen.addr_is ∙ ap (λ (b : Buffer). b.segment.addr) first.buffer);
  id = ap (λ (m : Memory). id_of m addr) seen.flags_is ∙ flags.id;
  flags = ap (λ (m : Memory). flags_of m addr) seen.flags_is ∙ flags.flags;
}

module _ (old new : Sightings) (desc n h wrap count : ℕ) (source : ℕ → Source) (r : AreRead old new desc n h wrap source)
    (p : IsPublished old new desc n h wrap count) where
  -- the flags of the first descriptor were seen once the list was published
  published_first : p.moment ≤ r.first_seen.place
  published_first =
      elim (cases_lt r.first_seen.place p.moment) [
        | inl sooner ↦ absurd (no (is_available_in (source h).flags_in desc h wrap) r.available
            (ap (λ (m : Memory). is_available_in m desc h wrap) r.first_seen.is
            ∙ p.withheld r.first_seen.place r.first_seen.from sooner))
        | inr later ↦ later
      ]
    where
      no : (b : Bool) → b ≡ true → b ≡ false → ⊥
      no b so not = let both : true ≡ false = sym so ∙ not in cc both

  -- and so were both words of each of the list's
  pub published_alone : (i : ℕ) → i ≤ count → (h + i) % n < n
      → IsLeftAlone (source ((h + i) % n)) (memory new) (descriptor_addr desc ((h + i) % n))
  published_alone i most below =
      let seen = r.sources ((h + i) % n) below in
      both_stand new r.first_seen.place (descriptor_addr desc ((h + i) % n)) (memory new) (source ((h + i) % n)) seen
      (p.stands seen.flags_at i (omega (arith, published_first, seen.from)) (omega (arith, seen.in_turn, seen.to)) most)
      (p.stands seen.addr_at i (omega (arith, published_first, seen.from, seen.in_turn)) seen.to most)

-- The positions of a list are those from its first one on. Where each of them is left alone, its descriptors are told as
-- they were read, and the last one is left alone, too.
module _ (source : ℕ → Source) (m : Memory) (desc n : ℕ) where
  abbrev IsAlone : ℕ → Type 0
  IsAlone j = IsLeftAlone (source j) m (descriptor_addr desc j)

  members_alone : (h i : ℕ) (front : List ℕ) → Leads (read_table source desc n) n h front i → i < n
      → ((k : ℕ) → k ≤ length front → IsAlone ((h + k) % n))
      → Agree (read_table source desc n) (ring_descriptor m desc n) front × IsAlone i
  members_alone h i [] leads below alone =
      let same : h ≡ i = leads in
      let here : (h + 0) % n ≡ i = sym (start_at n h (omega (arith, same, below))) ∙ same in
      (tt, subst IsAlone here (alone 0 (omega arith)))
  members_alone h i (x ∷ front) leads below alone =
      let same : h ≡ x = leads.0 in
      let here : (h + 0) % n ≡ x = sym (start_at n h (omega (arith, same, leads.1.below))) ∙ same in
      let next : first_of front i ≡ (h + 1) % n =
      next_is (source x) desc n x (first_of front i) leads.1.next ∙ ap (λ (j : ℕ). (j + 1) % n) (sym same) in
      let rest = members_alone (first_of front i) i front leads.2 below (λ k few.
      let there : (h + (k + 1)) % n ≡ (first_of front i + k) % n =
      ap (λ (j : ℕ). j % n) (further k) ∙ sym (mod-add-mod (h + 1) n k)
      ∙ ap (λ (j : ℕ). (j + k) % n) (sym next) in
      subst IsAlone there (alone (k + 1) (omega (arith, few)))) in
      ((described_one (source x) m desc n x (subst IsAlone here (alone 0 (omega arith))), rest.0), rest.1)
    where
      further : (k : ℕ) → h + (k + 1) ≡ h + 1 + k
      further k = omega arith

module _ (old new : Sightings) (ring : RingState) (buffers : List Buffer) (entry : Entry)
    (r : IsOffered old new ring buffers entry)
    (p : IsPublished old new ring.setup.desc ring.setup.size (head_of ring) (next_wrap ring) r.offers.count) where
  abbrev list_alone : ℕ → Type 0
  list_alone j = IsLeftAlone (r.source j) (memory new) (descriptor_addr ring.setup.desc j)

  each : (k : ℕ) → k ≤ length r.offers.list.reached.front → list_alone ((head_of ring + k) % ring.setup.size)
  each k few =
      published_alone old new ring.setup.desc ring.setup.size (head_of ring) (next_wrap ring) r.offers.count r.source r.read p k
      (omega (arith, few, r.offers.list.reached.counted))
      (mod_below (head_of ring + k) ring.setup.size (omega (arith, r.offers.list.comes.below)))

  -- its descriptors are then those of the ring
  pub published_offered : packed_kind.Offers (memory new) ring buffers entry
  published_offered =
      let o = r.offers in
      let a = members_alone r.source (memory new) ring.setup.desc ring.setup.size (head_of ring) o.last o.list.reached.front
      o.list.reached.leads o.list.comes.below each in
      record {
        count = o.count;
        last = o.last;
        list = list_of_members packed_tables ring.setup.indirect (memory new)
            (read_table r.source ring.setup.desc ring.setup.size) (table_of (memory new) ring) ring.setup.size (head_of ring)
            o.count o.last buffers o.list a.0
            (described_one (r.source o.last) (memory new) ring.setup.desc ring.setup.size o.last a.1);
        entry_is = o.entry_is ∙ ap (λ (id : ℕ). entry_of id (o.count + 1)) a.1.id;
      }

  -- and the first one is available
  pub published_available : is_available (memory new) ring ≡ true
  published_available =
      let list = r.offers.list in
      let below = first_below (read_table r.source ring.setup.desc ring.setup.size) ring.setup.size (head_of ring)
      r.offers.last list.reached.front list.reached.leads list.comes.below in
      let first : list_alone (head_of ring) =
      subst list_alone (sym (start_at ring.setup.size (head_of ring) below)) (each 0 (omega arith)) in
      ap (λ (flags : ℕ). are_available flags (next_wrap ring)) (sym first.flags) ∙ r.read.available
