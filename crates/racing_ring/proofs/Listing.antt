-- A list of a packed ring whose descriptors are read one by one, each of a source of its own.
use Rattle.std.proofs.Common.{◌≡◌, ◌∙◌, ℕ, zero, suc, ◌+◌, ◌%◌, ◌<◌, ◌≤◌, Bool, true, false, Some, None, List, [], ◌∷◌, ◌++◌, length, refl, sym, ap, subst, arith, inl, inr}
use Rattle.std.specs.Prelude.{◌==◌, ◌&&◌, not, if◌then◌else◌}
use Rattle.std.proofs.lemmas.Bool.{cases_eq}
use Rattle.std.proofs.lemmas.Bool.Decides.{nat_tests}
use Rattle.std.proofs.lemmas.List.{length_push}
use Rattle.guest_memory.specs.Memory.{Memory, SameRange}
use Rattle.chain.specs.declared.segment.Buffer.{Buffer}
use Rattle.chain.specs.declared.fault.Fault.{Fault}
use Rattle.chain.specs.declared.fault.Fault.TheVariants.{Loop}
use Rattle.chain.specs.Buffers.{Admits, Refuses}
use Rattle.indirect.specs.declared.descriptor.Descriptor.{Descriptor}
use Rattle.indirect.specs.Walks.{Follows, Reached, buffers_of}
use Rattle.indirect.specs.Lists.{packed_tables, EndsInTable, TableRefused}
use Rattle.indirect.proofs.Walking.{Leads-push, admitted_step, named_step}
use Rattle.indirect.proofs.Listing.{list_plain, list_table, list_full, list_refused, list_table_refused}
use Rattle.packed_ring.specs.Ring.{descriptor_addr, id_of}
use Rattle.packed_ring.specs.Kind.{entry_of}
use Rattle.shared_memory.specs.Sightings.{Sightings, Loads, SeenAs, memory}
use Rattle.shared_memory.proofs.Sightings.{loads_range, loads_trans}
use Rattle.racing_ring.specs.Source.{Source, IsSeenInTurn}
use Rattle.racing_ring.specs.Packed.{AreRead, IsCopied, IsListed, IsListFaulty, IsWithheld, are_available, is_available_in, read_descriptor, read_entry, read_table}
use Rattle.racing_ring.proofs.Seeing.{source_of, turn_later, turn_sooner}
use Rattle.racing_ring.proofs.Tables.{Agree, admits_back, reached_kept, reached_range}
use Rattle.racing_ring.proofs.Positions.{Behind, behind_push, next_at, start_at, steps, steps_of}

-- the sources, where one position is read anew: all of them if it is the first one
pub with_source : ℕ → (ℕ → Source) → ℕ → Source → ℕ → Source
with_source zero source i s j = s
with_source (suc count) source i s j = if j == i then s else source j

with_same : (count : ℕ) (source : ℕ → Source) (i : ℕ) (s : Source) → with_source count source i s i ≡ s
unfolding with_source
with_same zero source i s = refl
with_same (suc count) source i s = let test : (i == i) ≡ true = grind (arith, nat_tests) in rw test refl

with_other : (count : ℕ) (source : ℕ → Source) (i j : ℕ) (s : Source) → 0 < count → ¬ (j ≡ i)
    → with_source count source i s j ≡ source j
unfolding with_source
with_other zero source i j s some other = absurd (omega (arith, some))
with_other (suc count) source i j s some other =
    let test : (j == i) ≡ false = grind (arith, nat_tests, other) in rw test refl

-- where some position was read before, the first one was, and isn't this one
not_first : (n h count i : ℕ) → h < n → steps n h i ≡ count → 0 < count → ¬ (h ≡ i)
not_first n h count i below here some same =
    let first : steps n h h ≡ 0 = ap (steps n h) (start_at n h below)
    ∙ steps_of n h 0 below (omega (arith, below)) in
    let there : steps n h h ≡ steps n h i = ap (steps n h) same in
    omega (arith, first, there, here, some)

-- the positions that were read before are told as they were
agree_copied : (source : ℕ → Source) (s : Source) (desc n h count i : ℕ) (front : List ℕ) → steps n h i ≡ count
    → Behind n h count front
    → Agree (read_table source desc n) (read_table (with_source count source i s) desc n) front
agree_copied source s desc n h count i [] e b = tt
agree_copied source s desc n h count i (x ∷ front) e b = (
  ap (λ (s : Source). read_descriptor s desc n x)
      (sym (with_other count source i x s (omega (arith, b.0)) other)),
  agree_copied source s desc n h count i front e b.1,
)
  where
    other : ¬ (x ≡ i)
    other same = let there : steps n h x ≡ steps n h i = ap (steps n h) same in omega (arith, there, e, b.0)

-- How far a walk has come: count descriptors were read, those of the positions from h on, and i is the next one.
pub record Followed (m : Memory) (old now : Sightings) (desc n h wrap count i : ℕ) (buffers : List Buffer) : Type 0 where
  pub source : ℕ → Source
  pub read : 0 < count → AreRead old now desc n h wrap source
  pub reached : Reached m [] (read_table source desc n) n h count i buffers
  pub behind : Behind n h count reached.front
  pub at : i ≡ (h + count) % n

-- before the first step
pub followed_start : (now : Sightings) (desc n h wrap : ℕ) → h < n
    → Followed (memory now) now now desc n h wrap 0 h []
followed_start now desc n h wrap below = record {
  source = λ i. source_of now now;
  read = λ some. absurd (omega (arith, some));
  reached = record { front = []; leads = refl; counted = refl; admitted = tt; named = refl };
  behind = tt;
  at = start_at n h below;
}

-- no buffer is there yet
pub followed_none : (m : Memory) (old now : Sightings) (desc n h wrap count i : ℕ) (buffers : List Buffer)
    → Followed m old now desc n h wrap count i buffers → count ≡ 0 → buffers ≡ []
followed_none m old now desc n h wrap count i buffers f none =
    f.reached.named ∙ by f.reached.front (f.reached.counted ∙ none)
  where
    by : (front : List ℕ) → length front ≡ 0
        → [] ++ buffers_of (read_table f.source desc n) front ≡ []
    by [] e = refl
    by (x ∷ front) e = absurd (omega (arith, e))

-- the first position is the next one where none was read
first_next : (n h count i : ℕ) → h < n → i ≡ (h + count) % n → count ≡ 0 → i ≡ h
first_next n h count i below at none =
    at ∙ ap (λ (k : ℕ). (h + k) % n) none ∙ sym (start_at n h below)

-- what one read was of was seen since the walk began
read_place : (old mid new : Sightings) (source : Source) → old.now ≤ mid.now → IsSeenInTurn mid.now new source
    → SeenAs old new source.flags_in
read_place old mid new source later s = record {
  place = s.flags_at;
  from = omega (arith, later, s.from);
  to = omega (arith, s.in_turn, s.to);
  is = s.flags_is;
}

-- what was read stays read
pub read_later : (races : Bool) (old mid new : Sightings) (desc n h wrap : ℕ) (source : ℕ → Source)
    → Loads races mid new → AreRead old mid desc n h wrap source → AreRead old new desc n h wrap source
read_later races old mid new desc n h wrap source loads r = record {
  first_seen = record {
    place = r.first_seen.place;
    from = r.first_seen.from;
    to = omega (arith, r.first_seen.to, loads.later);
    is = r.first_seen.is ∙ sym (loads.kept r.first_seen.place r.first_seen.to);
  };
  available = r.available;
  sources = λ i below. turn_later races r.first_seen.place mid new (source i) loads (r.sources i below);
}

-- The first descriptor was read, and is available.
read_first : (old mid new : Sightings) (desc n h wrap : ℕ) (source : ℕ → Source) (s : Source) → old.now ≤ mid.now
    → IsSeenInTurn mid.now new s → is_available_in s.flags_in desc h wrap ≡ true
    → AreRead old new desc n h wrap (with_source 0 source h s)
unfolding with_source
read_first old mid new desc n h wrap source s later seen available = record {
  first_seen = record {
    place = seen.flags_at;
    from = omega (arith, later, seen.from);
    to = omega (arith, seen.in_turn, seen.to);
    is = seen.flags_is;
  };
  available = available;
  sources = λ i below. record {
    flags_at = seen.flags_at;
    addr_at = seen.addr_at;
    from = omega arith;
    in_turn = seen.in_turn;
    to = seen.to;
    flags_is = seen.flags_is;
    addr_is = seen.addr_is;
  };
}

-- One more was read.
read_more : (races : Bool) (old mid new : Sightings) (desc n h wrap count i : ℕ) (source : ℕ → Source) (s : Source)
    → h < n → steps n h i ≡ count → 0 < count → Loads races mid new → IsSeenInTurn mid.now new s
    → AreRead old mid desc n h wrap source → AreRead old new desc n h wrap (with_source count source i s)
read_more races old mid new desc n h wrap count i source s below here some loads seen r =
    let first : with_source count source i s h ≡ source h =
    with_other count source i h s some (not_first n h count i below here some) in
    record {
      first_seen = record {
        place = r.first_seen.place;
        from = r.first_seen.from;
        to = omega (arith, r.first_seen.to, loads.later);
        is = ap (λ (s : Source). s.flags_in) first ∙ r.first_seen.is
            ∙ sym (loads.kept r.first_seen.place r.first_seen.to);
      };
      available = ap (λ (s : Source). is_available_in s.flags_in desc h wrap) first ∙ r.available;
      sources = λ j b. elim (cases_eq j i) [
        | inl same ↦ subst (λ (s : Source). IsSeenInTurn r.first_seen.place new s)
            (sym (ap (with_source count source i s) same ∙ with_same count source i s))
            (turn_sooner r.first_seen.place mid.now new s r.first_seen.to seen)
        | inr other ↦ subst (λ (s : Source). IsSeenInTurn r.first_seen.place new s)
            (sym (with_other count source i j s some other))
            (turn_later races r.first_seen.place mid new (source j) loads (r.sources j b))
      ];
    }

-- where a list isn't withheld, its first descriptor is available
shown_available : (count flags wrap : ℕ) → count ≡ 0 → (count == 0 && not (are_available flags wrap)) ≡ false
    → are_available flags wrap ≡ true
shown_available count flags wrap none test =
    let zero : (count == 0) ≡ true = grind (arith, nat_tests, none) in
    by (count == 0) (are_available flags wrap) zero test
  where
    by : (a b : Bool) → a ≡ true → (a && not b) ≡ false → b ≡ true
    by true true z e = refl
    by true false z e = cc e
    by false b z e = cc z

-- The descriptor at the next position was read, and the list isn't withheld.
pub record Shown (races : Bool) (old new : Sightings) (desc n h wrap count i : ℕ) (buffers : List Buffer)
    (d : Descriptor) (id : ℕ) : Type 0 where
  pub loads : Loads races old new
  pub source : ℕ → Source
  pub read : AreRead old new desc n h wrap source
  pub reached : Reached (memory old) [] (read_table source desc n) n h count i buffers
  pub behind : Behind n h count reached.front
  pub at : i ≡ (h + count) % n
  pub told : d ≡ read_table source desc n i
  pub named : id ≡ id_of (source i).flags_in (descriptor_addr desc i)

pub shown : {races : Bool} {old mid new : Sightings} {desc n h wrap count i id flags : ℕ} {buffers : List Buffer}
    {d : Descriptor} {withheld : Bool} → h < n → count < n → Loads races old mid
    → Loads races mid new → Followed (memory old) old mid desc n h wrap count i buffers
    → IsCopied mid new desc n i d id flags
    → withheld ≡ (count == 0 && not (are_available flags wrap)) → withheld ≡ false
    → Shown races old new desc n h wrap count i buffers d id
shown {races} {old} {mid} {new} {desc} {n} {h} {wrap} {count} {i} {id} {flags} {buffers} {d} {withheld} below room before now f c test isnt =
    let here : steps n h i ≡ count = ap (steps n h) f.at ∙ steps_of n h count below room in
    let is : with_source count f.source i c.source i ≡ c.source = with_same count f.source i c.source in
    record {
      loads = loads_trans races old mid new before now;
      source = with_source count f.source i c.source;
      read = elim (cases_eq count 0) [
        | inl none ↦
            let first : i ≡ h = first_next n h count i below f.at none in
            let available : is_available_in c.source.flags_in desc h wrap ≡ true =
            ap (λ (k : ℕ). is_available_in c.source.flags_in desc k wrap) (sym first)
            ∙ ap (λ (flags : ℕ). are_available flags wrap) (sym c.flags_is)
            ∙ shown_available count flags wrap none (sym test ∙ isnt) in
            subst (λ (k : ℕ). AreRead old new desc n h wrap (with_source k f.source i c.source)) (sym none)
            (subst (λ (j : ℕ). AreRead old new desc n h wrap (with_source 0 f.source j c.source)) (sym first)
            (read_first old mid new desc n h wrap f.source c.source before.later c.seen available))
        | inr some ↦
            let more : 0 < count = omega (arith, some) in
            read_more races old mid new desc n h wrap count i f.source c.source below here more now c.seen
            (f.read more)
      ];
      reached = reached_kept (memory old) [] (read_table f.source desc n)
          (read_table (with_source count f.source i c.source) desc n) n h count i buffers f.reached
          (agree_copied f.source c.source desc n h count i f.reached.front here f.behind);
      behind = f.behind;
      at = f.at;
      told = c.descriptor ∙ ap (λ (s : Source). read_descriptor s desc n i) (sym is);
      named = c.id_is ∙ ap (λ (s : Source). id_of s.flags_in (descriptor_addr desc i)) (sym is);
    }

-- and else it is, and no other was read
is_first : (count flags wrap : ℕ) → (count == 0 && not (are_available flags wrap)) ≡ true
    → (count ≡ 0) × (are_available flags wrap ≡ false)
is_first count flags wrap test =
    let zero : (count == 0) ≡ true = (both (count == 0) (are_available flags wrap) test).0 in
    (grind (arith, nat_tests, zero), (both (count == 0) (are_available flags wrap) test).1)
  where
    both : (a b : Bool) → (a && not b) ≡ true → (a ≡ true) × (b ≡ false)
    both true false e = (refl, refl)
    both true true e = cc e
    both false b e = cc e

pub hidden : {races : Bool} {old mid new : Sightings} {desc n h wrap count i id flags : ℕ} {buffers : List Buffer}
    {d : Descriptor} {withheld : Bool} → h < n → Loads races old mid
    → Loads races mid new → Followed (memory old) old mid desc n h wrap count i buffers
    → IsCopied mid new desc n i d id flags
    → withheld ≡ (count == 0 && not (are_available flags wrap)) → withheld ≡ true
    → IsWithheld old new desc h wrap × (buffers ≡ [])
hidden {races} {old} {mid} {new} {desc} {n} {h} {wrap} {count} {i} {id} {flags} {buffers} {d} {withheld} below before loads f c test is_so =
    let first = is_first count flags wrap (sym test ∙ is_so) in
    let same : i ≡ h = first_next n h count i below f.at first.0 in (
      record {
        head_in = c.source.flags_in;
        head_seen = read_place old mid new c.source before.later c.seen;
        withheld = ap (λ (k : ℕ). is_available_in c.source.flags_in desc k wrap) (sym same)
            ∙ ap (λ (flags : ℕ). are_available flags wrap) (sym c.flags_is) ∙ first.1;
      },
      followed_none (memory old) old mid desc n h wrap count i buffers f first.0,
    )

module _ {races : Bool} {old new : Sightings} {desc n h wrap count i : ℕ} {buffers : List Buffer} {d : Descriptor} {id : ℕ}
    (below : h < n) (room : count < n) (here : i < n) (s : Shown races old new desc n h wrap count i buffers d id) where
  -- the descriptor is plain, has NEXT, and its buffer is admitted
  pub followed_step : {j : ℕ} {after : List Buffer} → d.indirect ≡ false → d.next ≡ Some j
      → Admits (memory new) buffers d.buffer → after ≡ buffers ++ d.buffer ∷ []
      → Followed (memory old) old new desc n h wrap (count + 1) j after
  followed_step {j} {after} plain next admits pushed =
      let t = read_table s.source desc n in
      let r = s.reached in
      let a = admits_back (memory old) (memory new) buffers d.buffer (loads_range races old new s.loads) admits in
      let onward : (t i).next ≡ Some j = ap (λ (d : Descriptor). d.next) (sym s.told) ∙ next in
      let f : Follows t n i j = record {
        below = here;
        plain = ap (λ (d : Descriptor). d.indirect) (sym s.told) ∙ plain;
        next = onward;
      } in
      record {
        source = s.source;
        read = λ _. s.read;
        reached = record {
          front = r.front ++ i ∷ [];
          leads = Leads-push t n h i j r.front r.leads f;
          counted = length_push r.front i ∙ ap (λ k. k + 1) r.counted;
          admitted = admitted_step (memory old) [] buffers t r.front i d s.told r.admitted r.named a;
          named = pushed ∙ named_step [] buffers t r.front i d s.told r.named;
        };
        behind = behind_push n h count i r.front (ap (steps n h) s.at ∙ steps_of n h count below room) s.behind;
        at = next_at (s.source i) desc n h count i j onward s.at;
      }

-- the list ends at a descriptor, or has a fault there
module _ {races : Bool} {old at new : Sightings} (negotiated : Bool) {desc n h wrap count i : ℕ} {buffers : List Buffer}
    {d : Descriptor} {id : ℕ} (room : count < n) (here : i < n)
    (s : Shown races old at desc n h wrap count i buffers d id) (later : Loads races at new) where
  same : SameRange (memory old) (memory new)
  same = loads_range races old new (loads_trans races old at new s.loads later)

  all_read : AreRead old new desc n h wrap s.source
  all_read = read_later races old at new desc n h wrap s.source later s.read

  far : Reached (memory new) [] (read_table s.source desc n) n h count i buffers
  far = reached_range (memory old) (memory new) [] (read_table s.source desc n) n h count i buffers same s.reached

  entry : entry_of id (count + 1) ≡ read_entry s.source desc count i
  entry = ap (λ (k : ℕ). entry_of k (count + 1)) s.named

  -- it is plain
  pub listed_plain : {after : List Buffer} → d.indirect ≡ false → d.next ≡ None
      → Admits (memory new) buffers d.buffer → after ≡ buffers ++ d.buffer ∷ []
      → IsListed old new negotiated desc n h wrap after (entry_of id (count + 1))
  listed_plain {after} plain ends a pushed = record {
    source = s.source;
    read = all_read;
    offers = record {
      count = count;
      last = i;
      list = list_plain packed_tables negotiated (memory new) (read_table s.source desc n) n h buffers after count i d
          s.told room here plain ends a pushed far;
      entry_is = entry;
    };
  }

  -- it refers to a table
  pub listed_table : {after : List Buffer} → d.indirect ≡ true
      → EndsInTable packed_tables negotiated (memory new) buffers count d after
      → IsListed old new negotiated desc n h wrap after (entry_of id (count + 1))
  listed_table {after} indirect ends = record {
    source = s.source;
    read = all_read;
    offers = record {
      count = count;
      last = i;
      list = list_table packed_tables negotiated (memory new) (read_table s.source desc n) n h buffers after count i d
          s.told room here indirect ends.known ends.apart ends.table far;
      entry_is = entry;
    };
  }

  -- its buffer is refused
  pub listed_refused : {fault : Fault} → d.indirect ≡ false → Refuses (memory new) buffers d.buffer fault
      → IsListFaulty old new negotiated desc n h wrap fault
  listed_refused {fault} plain refused = record {
    source = s.source;
    read = all_read;
    fails = list_refused packed_tables negotiated (memory new) (read_table s.source desc n) n h buffers count i d fault
        s.told room here plain refused far;
  }

  -- or its table is
  pub listed_table_refused : {fault : Fault} → d.indirect ≡ true
      → TableRefused packed_tables negotiated (memory new) buffers count d fault
      → IsListFaulty old new negotiated desc n h wrap fault
  listed_table_refused {fault} indirect refused = record {
    source = s.source;
    read = all_read;
    fails = list_table_refused packed_tables negotiated (memory new) (read_table s.source desc n) n h buffers count i d
        fault s.told room here indirect refused far;
  }

-- each descriptor of the ring was read, and the list goes on
pub listed_full : {races : Bool} {old new : Sightings} (negotiated : Bool) {desc n h wrap count i : ℕ}
    {buffers : List Buffer} → h < n → Loads races old new
    → Followed (memory old) old new desc n h wrap count i buffers → count ≡ n → IsListFaulty old new negotiated desc n h wrap Loop
listed_full {races} {old} {new} negotiated {desc} {n} {h} {wrap} {count} {i} {buffers} below loads f full = record {
  source = f.source;
  read = f.read (omega (arith, below, full));
  fails = list_full packed_tables negotiated (memory new) (read_table f.source desc n) n h buffers count i full
      (reached_range (memory old) (memory new) [] (read_table f.source desc n) n h count i buffers
      (loads_range races old new loads) f.reached);
}
