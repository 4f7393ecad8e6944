-- A chain that its guest leaves alone while it is taken is served at one moment.
use Rattle.std.proofs.Common.{◌≡◌, ◌∙◌, ℕ, ◌+◌, ◌%◌, ◌<◌, ◌≤◌, Bool, true, false, List, [], ◌∷◌, ◌++◌, length, refl, sym, ap, subst, arith}
use Rattle.std.specs.Prelude.{◌&&◌, All, nat_lt}
use Rattle.std.specs.List.{AllByRecursion}
use Rattle.std.proofs.Math.Nat.{mod-add-mod}
use Rattle.std.proofs.lemmas.Nat.{mod_below}
use Rattle.std.proofs.lemmas.List.Elements.{All-cons, All-from_recursion, All-nil, All-weaker, recursion_from_All}
use Rattle.guest_memory.specs.Memory.{Memory, num}
use Rattle.chain.specs.declared.segment.Buffer.{Buffer}
use Rattle.chain.specs.declared.state.RingState.{RingState}
use Rattle.chain.specs.Buffers.{Good}
use Rattle.chain.specs.Service.{Device, Entry}
use Rattle.chain.proofs.Servicing.{both}
use Rattle.indirect.specs.declared.descriptor.Descriptor.{Descriptor}
use Rattle.indirect.specs.Descriptors.{split_descriptor}
use Rattle.indirect.specs.Walks.{Leads, first_of}
use Rattle.indirect.specs.Lists.{TableKind, split_tables, packed_tables, ListResolves}
use Rattle.split_ring.specs.Ring as split_ring
use Rattle.split_ring.specs.Kind as split_kinds
use Rattle.split_ring.specs.Kind.{split_kind}
use Rattle.packed_ring.specs.Ring as packed_ring
use Rattle.packed_ring.specs.Kind as packed_kinds
use Rattle.packed_ring.specs.Kind.{packed_kind}
use Rattle.shared_memory.specs.Sightings.{Sightings, memory}
use Rattle.racing_ring.specs.Split as split
use Rattle.racing_ring.specs.Packed as packed
use Rattle.racing_ring.specs.Packed.{IsPublished, are_available, read_table}
use Rattle.racing_ring.specs.Table.{read_split}
use Rattle.racing_ring.specs.Source.{IsSeenInTurn, Source}
use Rattle.racing_ring.proofs.Leaving.{list_of_members}
use Rattle.racing_ring.proofs.PackedLeaving.{described_one}
use Rattle.racing_ring.proofs.Positions.{next_is, start_at}
use Rattle.racing_ring.proofs.Publishing.{both_stand, published_alone}
use Rattle.racing_ring.proofs.Tables.{Agree}
use Rattle.racing_service.specs.Queue.{RacingKind, racing_packed, racing_split}
use Rattle.racing_service.specs.Service.{Standing, LeavesOne}
use Rattle.racing_service.specs.LeftAlone.{IsLeftAlone, IsLeftAtOnce, IsServedAtOnce, KeepsPacked, KeepsSplit, LeavesAlone, LeavesPacked, LeavesSplit, OneServed}
use Rattle.racing_service.proofs.Rings.{packed_stands_still, split_stands_still}
use Rattle.chain_handler.proofs.Still.{read_steady}

-- ---- a list that is walked in another table with the same members

agree_front : (t u : ℕ → Descriptor) (front : List ℕ) (last : ℕ) → AllByRecursion (λ i. t i ≡ u i) (front ++ last ∷ [])
    → Agree t u front
agree_front t u [] last each = tt
agree_front t u (x ∷ front) last each = (each.0, agree_front t u front last each.1)

at_last : (P : ℕ → Type 0) (front : List ℕ) (last : ℕ) → AllByRecursion P (front ++ last ∷ []) → P last
at_last P [] last each = each.0
at_last P (x ∷ front) last each = at_last P front last each.1

-- a list begins at its first member
at_head : (P : ℕ → Type 0) (t : ℕ → Descriptor) (n h last : ℕ) (front : List ℕ) → Leads t n h front last
    → AllByRecursion P (front ++ last ∷ []) → P h
at_head P t n h last [] leads each = rw leads each.0
at_head P t n h last (x ∷ front) leads each = rw leads.0 each.0

members_kept : (kind : TableKind) (negotiated : Bool) (m : Memory) (t u : ℕ → Descriptor) (n h count last : ℕ)
    (buffers : List Buffer) (x : ListResolves kind negotiated m t n h count last buffers)
    → All (λ i. t i ≡ u i) (x.reached.front ++ last ∷ []) → ListResolves kind negotiated m u n h count last buffers
members_kept kind negotiated m t u n h count last buffers x all =
    let each = recursion_from_All (λ i. t i ≡ u i) (x.reached.front ++ last ∷ []) all in
    list_of_members kind negotiated m t u n h count last buffers x (agree_front t u x.reached.front last each)
    (at_last (λ i. t i ≡ u i) x.reached.front last each)

-- ---- the split ring

split_offered : (old new : Sightings) (ring : RingState) (buffers : List Buffer) (entry : Entry)
    (o : split.IsOffered old new ring buffers entry) → LeavesSplit old new ring buffers entry o
    → split_kind.Offers (memory new) ring buffers entry
split_offered old new ring buffers entry o leaves =
    let table = split_ring.table_of (memory new) ring in
    record {
      count = o.walked.count;
      last = o.walked.last;
      list = subst (λ (h : ℕ). ListResolves split_tables ring.setup.indirect (memory new) table ring.setup.size h
          o.walked.count o.walked.last buffers) leaves.head
          (members_kept split_tables ring.setup.indirect (memory new) o.walked.table table ring.setup.size
          (split_ring.head_of o.head_in ring) o.walked.count o.walked.last buffers o.walked.resolves leaves.each);
      entry_is = o.entry_is ∙ ap split_kinds.entry_of leaves.head;
    }

-- ---- the packed ring

module _ (old new : Sightings) (ring : RingState) (buffers : List Buffer) (entry : Entry)
    (o : packed.IsOffered old new ring buffers entry) where
  abbrev IsAlone : ℕ → Type 0
  IsAlone i = packed.IsLeftAlone (o.source i) (memory new) (packed_ring.descriptor_addr ring.setup.desc i)

  abbrev members : List ℕ
  members = o.offers.list.reached.front ++ o.offers.last ∷ []

  abbrev as_read : ℕ → Descriptor
  as_read = read_table o.source ring.setup.desc ring.setup.size

  packed_offered : LeavesPacked old new ring buffers entry o → packed_kind.Offers (memory new) ring buffers entry
  packed_offered leaves =
      let list = o.offers.list in
      let n = ring.setup.size in
      let here = packed_ring.table_of (memory new) ring in
      let last = at_last IsAlone list.reached.front o.offers.last (recursion_from_All IsAlone members leaves.each) in
      record {
        count = o.offers.count;
        last = o.offers.last;
        list = members_kept packed_tables ring.setup.indirect (memory new) as_read here n (packed_ring.head_of ring)
            o.offers.count o.offers.last buffers list
            (All-weaker IsAlone (λ i. as_read i ≡ here i)
            (λ i. described_one (o.source i) (memory new) ring.setup.desc n i) members leaves.each);
        entry_is = o.offers.entry_is ∙ ap (λ (id : ℕ). packed_kinds.entry_of id (o.offers.count + 1)) last.id;
      }

  -- so its first descriptor is available in that memory, too
  packed_available : LeavesPacked old new ring buffers entry o → packed_ring.is_available (memory new) ring ≡ true
  packed_available leaves =
      let first = at_head IsAlone as_read ring.setup.size (packed_ring.head_of ring) o.offers.last
      o.offers.list.reached.front o.offers.list.reached.leads (recursion_from_All IsAlone members leaves.each) in
      ap (λ (flags : ℕ). are_available flags (packed_ring.next_wrap ring)) (sym first.flags) ∙ o.read.available

going : (going available : Bool) → true ≡ (going && available) → going ≡ true
going true available told = refl
going false available told = cc

packed_offers : (old new : Sightings) (ring : RingState) (buffers : List Buffer) (entry : Entry)
    (o : packed.IsOffered old new ring buffers entry) → packed.IsTold old new ring true
    → LeavesPacked old new ring buffers entry o → packed_kind.offers (memory new) ring ≡ true
packed_offers old new ring buffers entry o told leaves =
    both (nat_lt 0 ring.pending) (packed_ring.is_available (memory new) ring)
    (going (nat_lt 0 ring.pending) (packed_ring.is_available told.head_in ring) told.told)
    (packed_available old new ring buffers entry o leaves)

-- ---- what is seen the same at each access is left alone

-- the members of a list lie in the table
members_below : (t : ℕ → Descriptor) (n h last : ℕ) (front : List ℕ) → Leads t n h front last → last < n
    → All (λ i. i < n) (front ++ last ∷ [])
members_below t n h last [] leads below = All-cons (λ i. i < n) last [] below (All-nil (λ i. i < n))
members_below t n h last (x ∷ front) leads below =
    All-cons (λ i. i < n) x (front ++ last ∷ []) leads.1.below
    (members_below t n (first_of front last) last front leads.2 below)

-- a descriptor with another address
at_address : Descriptor → ℕ → Descriptor
at_address d addr = record d { buffer = record d.buffer { segment = record d.buffer.segment { addr = addr } } }

split_one : (begin : ℕ) (new : Sightings) (source : Source) (addr : ℕ) → IsSeenInTurn begin new source
    → ((k : ℕ) → begin ≤ k → k ≤ new.now → split_descriptor (new.at k) addr ≡ split_descriptor (memory new) addr)
    → read_split source addr ≡ split_descriptor (memory new) addr
unfolding at_address
split_one begin new source addr seen same =
    let m = memory new in
    let flags = same seen.flags_at seen.from (omega (arith, seen.in_turn, seen.to)) in
    let address = same seen.addr_at (omega (arith, seen.from, seen.in_turn)) seen.to in
    ap (λ (n : Memory). at_address (split_descriptor n addr) (num source.addr_in addr 8)) seen.flags_is
    ∙ ap (λ (n : Memory). at_address (split_descriptor (new.at seen.flags_at) addr) (num n addr 8)) seen.addr_is
    ∙ ap (λ (d : Descriptor). at_address d (num (new.at seen.addr_at) addr 8)) flags
    ∙ ap (λ (d : Descriptor). at_address (split_descriptor m addr) d.buffer.segment.addr) address

pub split_alike : (old new : Sightings) (ring : RingState) (buffers : List Buffer) (entry : Entry)
    (o : split.IsOffered old new ring buffers entry)
    → KeepsSplit o.head_seen.place new ring (o.walked.resolves.reached.front ++ o.walked.last ∷ [])
    → LeavesSplit old new ring buffers entry o
split_alike old new ring buffers entry o keeps =
    let list = o.walked.resolves in
    let begin = o.head_seen.place in
    let below = members_below o.walked.table ring.setup.size (split_ring.head_of o.head_in ring) o.walked.last
    list.reached.front list.reached.leads list.comes.below in
    record {
      head = ap (λ (m : Memory). split_ring.head_of m ring) o.head_seen.is
          ∙ keeps.head o.head_seen.place (omega arith) o.head_seen.to;
      each = λ k d there.
          let was = o.walked.table_seen _ (below k d there) in
          was.is ∙ split_one begin new was.source _ was.seen (keeps.each k d there);
    }

pub packed_alike : (old new : Sightings) (ring : RingState) (buffers : List Buffer) (entry : Entry)
    (o : packed.IsOffered old new ring buffers entry)
    → KeepsPacked o.read.first_seen.place new ring (o.offers.list.reached.front ++ o.offers.last ∷ [])
    → LeavesPacked old new ring buffers entry o
packed_alike old new ring buffers entry o keeps =
    let list = o.offers.list in
    let begin = o.read.first_seen.place in
    let below = members_below (read_table o.source ring.setup.desc ring.setup.size) ring.setup.size
    (packed_ring.head_of ring) o.offers.last list.reached.front list.reached.leads list.comes.below in
    record {
      each = λ k d there.
          let seen = o.read.sources _ (below k d there) in
          let same = keeps.each k d there in
          both_stand new begin _ (memory new) _ seen
          (same seen.flags_at seen.from (omega (arith, seen.in_turn, seen.to)))
          (same seen.addr_at (omega (arith, seen.from, seen.in_turn)) seen.to);
    }

-- ---- what is published meanwhile is left alone from then on

-- the members of a list are the positions from its first one on
members_in_turn : (source : ℕ → Source) (desc n : ℕ) (P : ℕ → Type 0) (h i : ℕ) (front : List ℕ)
    → Leads (read_table source desc n) n h front i → i < n → ((k : ℕ) → k ≤ length front → P ((h + k) % n))
    → AllByRecursion P (front ++ i ∷ [])
members_in_turn source desc n P h i [] leads below each =
    let same : h ≡ i = leads in
    let here : (h + 0) % n ≡ i = sym (start_at n h (omega (arith, same, below))) ∙ same in
    (subst P here (each 0 (omega arith)), tt)
members_in_turn source desc n P h i (x ∷ front) leads below each =
    let same : h ≡ x = leads.0 in
    let here : (h + 0) % n ≡ x = sym (start_at n h (omega (arith, same, leads.1.below))) ∙ same in
    let next : first_of front i ≡ (h + 1) % n =
    next_is (source x) desc n x (first_of front i) leads.1.next ∙ ap (λ (j : ℕ). (j + 1) % n) (sym same) in (
      subst P here (each 0 (omega arith)),
      members_in_turn source desc n P (first_of front i) i front leads.2 below (λ k few.
          let further : h + (k + 1) ≡ h + 1 + k = omega arith in
          let there : (h + (k + 1)) % n ≡ (first_of front i + k) % n =
          ap (λ (j : ℕ). j % n) further ∙ sym (mod-add-mod (h + 1) n k) ∙ ap (λ (j : ℕ). (j + k) % n) (sym next) in
          subst P there (each (k + 1) (omega (arith, few)))),
    )

pub packed_published : (old new : Sightings) (ring : RingState) (buffers : List Buffer) (entry : Entry)
    (o : packed.IsOffered old new ring buffers entry)
    → IsPublished old new ring.setup.desc ring.setup.size (packed_ring.head_of ring) (packed_ring.next_wrap ring)
    o.offers.count → LeavesPacked old new ring buffers entry o
packed_published old new ring buffers entry o p =
    let list = o.offers.list in
    let h = packed_ring.head_of ring in
    let n = ring.setup.size in
    let alone = IsAlone old new ring buffers entry o in
    record {
      each = All-from_recursion alone (members old new ring buffers entry o)
          (members_in_turn o.source ring.setup.desc n alone h o.offers.last list.reached.front list.reached.leads
          list.comes.below
          (λ k few. published_alone old new ring.setup.desc n h (packed_ring.next_wrap ring) o.offers.count o.source o.read p k
          (omega (arith, few, list.reached.counted)) (mod_below (h + k) n (omega (arith, list.comes.below)))));
    }

-- ---- each chain of a service

-- What a kind of ring has to be for that.
pub record LeftLaws {Ring : Type 0} (kind : RacingKind Ring)
    (Leaves : (old new : Sightings) (ring : Ring) (buffers : List Buffer) (entry : Entry)
    → kind.IsOffered old new ring buffers entry → Type 0) : Type 0 where
  pub offers : (old new : Sightings) (ring : Ring) (buffers : List Buffer) (entry : Entry)
      (o : kind.IsOffered old new ring buffers entry) → kind.IsTold old new ring true → Leaves old new ring buffers entry o
      → kind.still.offers (memory new) ring ≡ true
  pub offered : (old new : Sightings) (ring : Ring) (buffers : List Buffer) (entry : Entry)
      (o : kind.IsOffered old new ring buffers entry) → Leaves old new ring buffers entry o
      → kind.still.Offers (memory new) ring buffers entry
  pub good : (old new : Sightings) (ring : Ring) (buffers : List Buffer) (entry : Entry)
      → kind.IsOffered old new ring buffers entry → Good (memory new) buffers

pub split_left : LeftLaws racing_split LeavesSplit
split_left = record {
  offers = λ old new ring buffers entry o told leaves. sym told;
  offered = split_offered;
  good = split_stands_still.good;
}

pub packed_left : LeftLaws racing_packed LeavesPacked
packed_left = record {
  offers = packed_offers;
  offered = packed_offered;
  good = packed_stands_still.good;
}

module _ {Ring State : Type 0} {kind : RacingKind Ring}
    {Leaves : (old new : Sightings) (ring : Ring) (buffers : List Buffer) (entry : Entry)
    → kind.IsOffered old new ring buffers entry → Type 0} (laws : LeftLaws kind Leaves) (device : Device State)
    (races : Bool) where
  pub served_at_once : (one : OneServed kind device races) → IsLeftAlone kind device races Leaves one
      → IsServedAtOnce kind device races one
  served_at_once one alone =
      let s = one.serves in
      let old = one.before.sightings in
      let ring = one.before.ring in
      let good = laws.good old s.taken ring s.buffers s.entry s.offered in
      let read = read_steady s.taken s.does.read_to s.buffers s.does.readable good.inside alone.bytes s.does.each_read in
      record {
        ready = both (device.takes one.before.state) (kind.still.offers (memory s.taken) ring) s.takes
            (laws.offers old s.taken ring s.buffers s.entry s.offered s.told alone.chain);
        offered = laws.offered old s.taken ring s.buffers s.entry s.offered alone.chain;
        gives = rw read at s.does.gives;
        each = s.does.each;
      }

  pub all_at_once : (chains : List (OneServed kind device races)) → All (IsLeftAlone kind device races Leaves) chains
      → All (IsServedAtOnce kind device races) chains
  all_at_once chains alone k d below = served_at_once _ (alone k d below)

  pub left_at_once : {E : Type 0} (Refuses : State → List ℕ → List Buffer → E → Type 0) (buffers : List Buffer)
      (entry : Entry) (why : E) (a b : Standing Ring State)
      (left : LeavesOne kind device races Refuses buffers entry why a b)
      → LeavesAlone kind device races Refuses Leaves buffers entry why a b left
      → IsLeftAtOnce kind device races Refuses (memory left.taken) a.ring a.state buffers entry why
  left_at_once Refuses buffers entry why a b left alone =
      let good = laws.good a.sightings left.taken a.ring buffers entry left.offered in
      let read = read_steady left.taken b.sightings buffers left.refuses.readable good.inside alone.bytes
      left.refuses.each_read in
      record {
        offers = laws.offers a.sightings left.taken a.ring buffers entry left.offered left.told alone.chain;
        offered = laws.offered a.sightings left.taken a.ring buffers entry left.offered alone.chain;
        refuses = rw read at left.refuses.refuses;
      }
