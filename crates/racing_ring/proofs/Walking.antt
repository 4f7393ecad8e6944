-- A walk whose descriptors are read one by one, and known from then on.
use Rattle.std.proofs.Common.{◌≡◌, ◌∙◌, ℕ, ◌+◌, ◌<◌, ◌≤◌, Bool, true, false, Some, None, List, [], ◌∷◌, ◌++◌, refl, sym, ap}
use Rattle.std.proofs.lemmas.List.{length_push}
use Rattle.guest_memory.specs.Memory.{Memory}
use Rattle.chain.specs.declared.segment.Buffer.{Buffer}
use Rattle.chain.specs.declared.fault.Fault.{Fault}
use Rattle.chain.specs.declared.fault.Fault.TheVariants.{Index, Loop}
use Rattle.chain.specs.Buffers.{Admits, Refuses}
use Rattle.indirect.specs.declared.descriptor.Descriptor.{Descriptor}
use Rattle.indirect.specs.Walks.{Follows, Reached}
use Rattle.indirect.specs.Lists.{split_tables, EndsInTable, TableRefused}
use Rattle.indirect.proofs.Walking.{Leads-push, admitted_step, named_step}
use Rattle.indirect.proofs.Listing.{list_plain, list_table, list_full, list_past, list_refused, list_table_refused}
use Rattle.shared_memory.specs.Sightings.{Sightings, Loads, memory}
use Rattle.shared_memory.proofs.Sightings.{loads_range, loads_trans}
use Rattle.racing_ring.specs.Walk.{IsWalked, IsWalkFaulty}
use Rattle.racing_ring.specs.Table.{Known, known_at, IsLookedUp}
use Rattle.racing_ring.proofs.Tables.{admits_back, reached_kept, reached_range}
use Rattle.racing_ring.proofs.Knowing.{AreKnown, AreSeen, agree_filled, agree_looked, filled, filled_found, filled_seen, known_push, seen_after, seen_looked, told, told_found}

-- how far a walk has come: what was reached through the descriptors that are known, which are those of the walk
pub record Walked (m : Memory) (known : Known) (n h count i : ℕ) (buffers : List Buffer) : Type 0 where
  pub reached : Reached m [] (told known) n h count i buffers
  pub fronts : AreKnown known reached.front

-- before the first step
pub walked_start : (m : Memory) (known : Known) (n h : ℕ) → Walked m known n h 0 h []
walked_start m known n h = record {
  reached = record { front = []; leads = refl; counted = refl; admitted = tt; named = refl };
  fronts = tt;
}

-- the descriptor at the index was looked up
pub walked_looked : (m : Memory) (begin : ℕ) (sightings : Sightings) (addr : ℕ) (old new : Known) (n h count i : ℕ)
    (buffers : List Buffer) (d : Descriptor) → IsLookedUp begin sightings addr old new i d
    → Walked m old n h count i buffers → Walked m new n h count i buffers
walked_looked m begin sightings addr old new n h count i buffers d looked w =
    let a = agree_looked begin sightings addr old new i d w.reached.front looked w.fronts in
    record {
      reached = reached_kept m [] (told old) (told new) n h count i buffers w.reached a.0;
      fronts = a.1;
    }

-- what the look-ups so far leave: the reads, what is known by them, and the walk
pub record LookedUp (races : Bool) (old new : Sightings) (addr n h count i : ℕ) (known : Known)
    (buffers : List Buffer) : Type 0 where
  pub loads : Loads races old new
  pub seen : AreSeen old.now new addr known
  pub walk : Walked (memory old) known n h count i buffers

-- and one more
pub looked_up : {races : Bool} {old mid new : Sightings} {addr n h count i : ℕ} {known known' : Known}
    {buffers : List Buffer} {d : Descriptor} → LookedUp races old mid addr n h count i known buffers
    → Loads races mid new → IsLookedUp mid.now new addr known known' i d
    → LookedUp races old new addr n h count i known' buffers
looked_up {races} {old} {mid} {new} {addr} {n} {h} {count} {i} {known} {known'} {buffers} {d} s now looked = record {
  loads = loads_trans races old mid new s.loads now;
  seen = seen_looked races old mid new addr known known' i d s.loads now looked s.seen;
  walk = walked_looked (memory old) mid.now new addr known known' n h count i buffers d looked s.walk;
}

-- and what later reads leave
pub looked_later : {races : Bool} {old at new : Sightings} {addr n h count i : ℕ} {known : Known}
    {buffers : List Buffer} → LookedUp races old at addr n h count i known buffers → Loads races at new
    → LookedUp races old new addr n h count i known buffers
looked_later {races} {old} {at} {new} {addr} {n} {h} {count} {i} {known} {buffers} s then = record {
  loads = loads_trans races old at new s.loads then;
  seen = seen_after races old.now at new addr known then s.seen;
  walk = s.walk;
}

-- it is plain, has NEXT, and its buffer is admitted
pub walked_step : (m : Memory) (known : Known) (n h count i j : ℕ) (buffers after : List Buffer)
    (d : Descriptor) → known_at known i ≡ Some d → i < n → d.indirect ≡ false → d.next ≡ Some j
    → Admits m buffers d.buffer → after ≡ buffers ++ d.buffer ∷ []
    → Walked m known n h count i buffers → Walked m known n h (count + 1) j after
walked_step m known n h count i j buffers after d found below plain next a pushed w =
    let t = told known in
    let e : d ≡ t i = told_found known i d found in
    let r = w.reached in
    let f : Follows t n i j = record {
      below = below;
      plain = ap (λ (d : Descriptor). d.indirect) (sym e) ∙ plain;
      next = ap (λ (d : Descriptor). d.next) (sym e) ∙ next;
    } in
    record {
      reached = record {
        front = r.front ++ i ∷ [];
        leads = Leads-push t n h i j r.front r.leads f;
        counted = length_push r.front i ∙ ap (λ k. k + 1) r.counted;
        admitted = admitted_step m [] buffers t r.front i d e r.admitted r.named a;
        named = pushed ∙ named_step [] buffers t r.front i d e r.named;
      };
      fronts = known_push known r.front i d w.fronts found;
    }

-- what was reached through what is known is reached through the table of what was seen
reach : (m : Memory) (known : Known) (sightings : Sightings) (addr n h count i : ℕ) (buffers : List Buffer)
    → Walked m known n h count i buffers → Reached m [] (filled known sightings addr) n h count i buffers
reach m known sightings addr n h count i buffers w =
    reached_kept m [] (told known) (filled known sightings addr) n h count i buffers w.reached
    (agree_filled known sightings addr w.reached.front w.fronts)

module _ {races : Bool} {old new : Sightings} {addr n h count i : ℕ} {known : Known} {buffers : List Buffer}
    (s : LookedUp races old new addr n h count i known buffers) where
  -- the walk goes on behind a plain descriptor
  pub walk_on : {j : ℕ} {after : List Buffer} {d : Descriptor} → known_at known i ≡ Some d → i < n → d.indirect ≡ false
      → d.next ≡ Some j → Admits (memory new) buffers d.buffer → after ≡ buffers ++ d.buffer ∷ []
      → LookedUp races old new addr n h (count + 1) j known after
  walk_on {j} {after} {d} found below plain next a pushed = record {
    loads = s.loads;
    seen = s.seen;
    walk = walked_step (memory old) known n h count i j buffers after d found below plain next
        (admits_back (memory old) (memory new) buffers d.buffer (loads_range races old new s.loads) a) pushed s.walk;
  }

  -- what was reached, in the memory that was seen last
  far : Reached (memory new) [] (filled known new addr) n h count i buffers
  far =
      reached_range (memory old) (memory new) [] (filled known new addr) n h count i buffers
      (loads_range races old new s.loads) (reach (memory old) known new addr n h count i buffers s.walk)

  -- it ends at a plain one
  pub walk_plain : (negotiated : Bool) {after : List Buffer} {d : Descriptor} → known_at known i ≡ Some d → count < n
      → i < n → d.indirect ≡ false → d.next ≡ None → Admits (memory new) buffers d.buffer
      → after ≡ buffers ++ d.buffer ∷ [] → IsWalked old.now new negotiated addr n h after
  walk_plain negotiated {after} {d} found room below plain ends a pushed = record {
    table = filled known new addr;
    table_seen = filled_seen old.now new addr n known s.loads.later s.seen;
    count = count;
    last = i;
    resolves = list_plain split_tables negotiated (memory new) (filled known new addr) n h buffers after count i d
        (filled_found known new addr i d found) room below plain ends a pushed far;
  }

  -- at one that refers to a table
  pub walk_table : (negotiated : Bool) {after : List Buffer} {d : Descriptor} → known_at known i ≡ Some d → count < n
      → i < n → d.indirect ≡ true → EndsInTable split_tables negotiated (memory new) buffers count d after
      → IsWalked old.now new negotiated addr n h after
  walk_table negotiated {after} {d} found room below indirect ends = record {
    table = filled known new addr;
    table_seen = filled_seen old.now new addr n known s.loads.later s.seen;
    count = count;
    last = i;
    resolves = list_table split_tables negotiated (memory new) (filled known new addr) n h buffers after count i d
        (filled_found known new addr i d found) room below indirect ends.known ends.apart ends.table far;
  }

  -- or fails
  pub walk_full : (negotiated : Bool) → count ≡ n → IsWalkFaulty old.now new negotiated addr n h Loop
  walk_full negotiated full = record {
    table = filled known new addr;
    table_seen = filled_seen old.now new addr n known s.loads.later s.seen;
    fails = list_full split_tables negotiated (memory new) (filled known new addr) n h buffers count i full far;
  }

  pub walk_past : (negotiated : Bool) → count < n → n ≤ i → IsWalkFaulty old.now new negotiated addr n h Index
  walk_past negotiated room past = record {
    table = filled known new addr;
    table_seen = filled_seen old.now new addr n known s.loads.later s.seen;
    fails = list_past split_tables negotiated (memory new) (filled known new addr) n h buffers count i room past far;
  }

  pub walk_refused : (negotiated : Bool) {d : Descriptor} {fault : Fault} → known_at known i ≡ Some d → count < n
      → i < n → d.indirect ≡ false → Refuses (memory new) buffers d.buffer fault
      → IsWalkFaulty old.now new negotiated addr n h fault
  walk_refused negotiated {d} {fault} found room below plain refused = record {
    table = filled known new addr;
    table_seen = filled_seen old.now new addr n known s.loads.later s.seen;
    fails = list_refused split_tables negotiated (memory new) (filled known new addr) n h buffers count i d fault
        (filled_found known new addr i d found) room below plain refused far;
  }

  pub walk_table_refused : (negotiated : Bool) {d : Descriptor} {fault : Fault} → known_at known i ≡ Some d
      → count < n → i < n → d.indirect ≡ true
      → TableRefused split_tables negotiated (memory new) buffers count d fault
      → IsWalkFaulty old.now new negotiated addr n h fault
  walk_table_refused negotiated {d} {fault} found room below indirect refused = record {
    table = filled known new addr;
    table_seen = filled_seen old.now new addr n known s.loads.later s.seen;
    fails = list_table_refused split_tables negotiated (memory new) (filled known new addr) n h buffers count i d
        fault (filled_found known new addr i d found) room below indirect refused far;
  }
