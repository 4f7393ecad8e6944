-- What a device does with a chain: the range stays, and of a guest that stands still it is what the definitions of chain say.
use Rattle.std.proofs.Common.{◌≡◌, ◌∙◌, ℕ, ◌+◌, ◌-◌, ◌≤◌, zero, suc, Bool, false, Option, Some, None, List, [], ◌∷◌, ◌++◌, get_or, take, drop, refl, sym, ap, subst, arith, append_assoc}
use Rattle.std.specs.Prelude.{All, IfErr, IfOk, Result, Ok, Err}
use Rattle.std.specs.List.{AllByRecursion, flat_map, range_with_len}
use Rattle.std.proofs.lemmas.List.Elements.{All-cons, All-head, All-nil, All-tail, recursion_from_All}
use Rattle.guest_memory.specs.Memory.{Memory, Inside, SameRange, part_of, put}
use Rattle.guest_memory.proofs.Ranges.{inside_same, put_range, same_trans, take-plus}
use Rattle.chain.specs.declared.segment.Buffer.{Buffer}
use Rattle.chain.specs.declared.segment.Segment.{Segment}
use Rattle.chain.specs.declared.virtqueue.Used.{Used}
use Rattle.chain.specs.Buffers.{Good, Within}
use Rattle.chain.specs.Bytes.{addresses, addresses_of, readable_of, segments_of, writable_of}
use Rattle.chain.specs.Service.{Device, Does, scattered, wrote}
use Rattle.chain.proofs.Directions.{All-segments_of}
use Rattle.chain.proofs.Partial.{scattered-nil}
use Rattle.shared_memory.specs.Bytes.{AreBytesSeen, IsSteady}
use Rattle.shared_memory.specs.Sightings.{Sightings, Loads, memory, still}
use Rattle.shared_memory.proofs.Sightings.{interference_range, loads_range, same_self}
use Rattle.chain_handler.specs.Device.{DoesRaced, Part, RefusesRaced, StoresParts}

-- ---- reading

-- the byte at each address
bytes_at : Memory → List ℕ → List ℕ
bytes_at m [] = []
bytes_at m (a ∷ addrs) = part_of m a 1 ++ bytes_at m addrs

bytes_at-append : (m : Memory) (xs ys : List ℕ) → bytes_at m (xs ++ ys) ≡ bytes_at m xs ++ bytes_at m ys
unfolding bytes_at
bytes_at-append m [] ys = refl
bytes_at-append m (a ∷ xs) ys =
    rw (bytes_at-append m xs ys) (sym (append_assoc (part_of m a 1) (bytes_at m xs) (bytes_at m ys)))

drop_more : (k : ℕ) (xs : List ℕ) → drop (suc k) xs ≡ drop 1 (drop k xs)
drop_more zero xs = refl
drop_more (suc k) [] = refl
drop_more (suc k) (x ∷ xs) = drop_more k xs

-- a part is its first byte, and the part behind that
pub part_more : (m : Memory) (a n : ℕ) → m.base ≤ a → part_of m a (suc n) ≡ part_of m a 1 ++ part_of m (a + 1) n
part_more m a n above =
    let next : a + 1 - m.base ≡ suc (a - m.base) = omega (arith, above) in
    let one : 1 + n ≡ suc n = omega arith in
    let rest = drop (a - m.base) m.bytes in
    let behind : part_of m (a + 1) n ≡ take n (drop 1 rest) =
    ap (λ (k : ℕ). take n (drop k m.bytes)) next ∙ ap (take n) (drop_more (a - m.base) m.bytes) in
    ap (λ (k : ℕ). take k rest) (sym one) ∙ take-plus 1 n rest
    ∙ ap (λ (bytes : List ℕ). part_of m a 1 ++ bytes) (sym behind)

-- the bytes of a segment are the part of the memory there
bytes_at-range : (m : Memory) (a n : ℕ) → m.base ≤ a → bytes_at m (range_with_len a n) ≡ part_of m a n
unfolding bytes_at
bytes_at-range m a zero above = refl
bytes_at-range m a (suc n) above =
    ap (λ (bytes : List ℕ). part_of m a 1 ++ bytes) (bytes_at-range m (a + 1) n (omega (arith, above)))
    ∙ sym (part_more m a n above)

segments_at : (m : Memory) (segments : List Segment) → All (λ s. Inside m s.addr s.len) segments
    → bytes_at m (flat_map addresses segments) ≡ flat_map (λ s. part_of m s.addr s.len) segments
unfolding bytes_at
segments_at m [] inside = refl
segments_at m (s ∷ segments) inside =
    let here : Inside m s.addr s.len = All-head (λ (s : Segment). Inside m s.addr s.len) s segments inside in
    let later = segments_at m segments (All-tail (λ (s : Segment). Inside m s.addr s.len) s segments inside) in
    bytes_at-append m (addresses s) (flat_map addresses segments)
    ∙ rw (bytes_at-range m s.addr s.len here.above, later) refl

readable_at : (m : Memory) (buffers : List Buffer) → All (Within m) buffers
    → bytes_at m (addresses_of false buffers) ≡ readable_of m buffers
readable_at m buffers inside = segments_at m (segments_of false buffers) (All-segments_of m false buffers inside)

-- where each byte stays as it is while they are read, what was seen is what stands there
steady_is : (old new : Sightings) (addrs bytes : List ℕ) → AllByRecursion (IsSteady old new) addrs
    → AreBytesSeen old new addrs bytes → bytes ≡ bytes_at (memory old) addrs
unfolding bytes_at
steady_is old new [] [] steady seen = refl
steady_is old new [] (x ∷ bytes) steady seen = absurd seen
steady_is old new (a ∷ addrs) [] steady seen = absurd seen
steady_is old new (a ∷ addrs) (x ∷ bytes) steady seen =
    let here = seen.0 in
    let same : part_of (memory old) a 1 ≡ x ∷ [] =
    sym (steady.0 here.seen.place here.seen.from here.seen.to)
    ∙ ap (λ (m : Memory). part_of m a 1) (sym here.seen.is) ∙ here.is in
    rw (same, ← steady_is old new addrs bytes steady.1 seen.1) refl

pub read_steady : (old new : Sightings) (buffers : List Buffer) (readable : List ℕ) → All (Within (memory old)) buffers
    → All (IsSteady old new) (addresses_of false buffers) → AreBytesSeen old new (addresses_of false buffers) readable
    → readable ≡ readable_of (memory old) buffers
read_steady old new buffers readable inside steady seen =
    let each = recursion_from_All (IsSteady old new) (addresses_of false buffers) steady in
    steady_is old new (addresses_of false buffers) readable each seen ∙ readable_at (memory old) buffers inside

-- so it is of a guest that stands still
pub read_still : (old new : Sightings) (buffers : List Buffer) (readable : List ℕ) → All (Within (memory old)) buffers
    → Loads false old new → AreBytesSeen old new (addresses_of false buffers) readable
    → readable ≡ readable_of (memory old) buffers
read_still old new buffers readable inside loads =
    read_steady old new buffers readable inside
    (λ i d there k from to. ap (λ (m : Memory). part_of m (get_or (addresses_of false buffers) i d) 1)
    (loads.interference k from to))

-- ---- writing

-- places of which none was written
scattered-none : (m : Memory) (addrs : List ℕ) (written : List (Option ℕ)) → wrote written ≡ false
    → scattered m addrs written ≡ m
scattered-none m [] written none = refl
scattered-none m (a ∷ addrs) [] none = refl
scattered-none m (a ∷ addrs) (None ∷ written) none = scattered-none m addrs written none
scattered-none m (a ∷ addrs) (Some x ∷ written) none = cc

-- a part of the places, and then the others
scattered-parts : (n : ℕ) (m : Memory) (addrs : List ℕ) (written : List (Option ℕ))
    → scattered (scattered m (take n addrs) (take n written)) (drop n addrs) (drop n written) ≡ scattered m addrs written
scattered-parts zero m addrs written = refl
scattered-parts (suc n) m [] written = refl
scattered-parts (suc n) m (a ∷ addrs) [] = scattered-nil m (drop n addrs)
scattered-parts (suc n) m (a ∷ addrs) (None ∷ written) = scattered-parts n m addrs written
scattered-parts (suc n) m (a ∷ addrs) (Some x ∷ written) = scattered-parts n (put m a (x ∷ [])) addrs written

stored_as : (parts : List Part) (old new : Sightings) (addrs : List ℕ) (written : List (Option ℕ))
    → StoresParts false old parts new addrs written → memory new ≡ scattered (memory old) addrs written
stored_as [] old new addrs written s = ap memory s.0 ∙ sym (scattered-none (memory old) addrs written s.1)
stored_as (part ∷ parts) old new addrs written s =
    let n = part.places in
    stored_as parts part.stored new (drop n addrs) (drop n written) s.1
    ∙ ap (λ (m : Memory). scattered m (drop n addrs) (drop n written))
    (s.0.stored ∙ ap (λ (m : Memory). scattered m (take n addrs) (take n written)) s.0.interference)
    ∙ scattered-parts n (memory old) addrs written

pub scattered_range : (m : Memory) (addrs : List ℕ) (written : List (Option ℕ)) → SameRange m (scattered m addrs written)
scattered_range m [] written = same_self m
scattered_range m (a ∷ addrs) [] = same_self m
scattered_range m (a ∷ addrs) (None ∷ written) = scattered_range m addrs written
scattered_range m (a ∷ addrs) (Some x ∷ written) =
    same_trans m (put m a (x ∷ [])) (scattered (put m a (x ∷ [])) addrs written) (put_range m a (x ∷ []))
    (scattered_range (put m a (x ∷ [])) addrs written)

-- whatever the guest wrote meanwhile, the range stays
parts_range : (races : Bool) (parts : List Part) (old new : Sightings) (addrs : List ℕ) (written : List (Option ℕ))
    → StoresParts races old parts new addrs written → SameRange (memory old) (memory new)
parts_range races [] old new addrs written s =
    subst (λ (l : Sightings). SameRange (memory old) (memory l)) (sym s.0) (same_self (memory old))
parts_range races (part ∷ parts) old new addrs written s =
    let n = part.places in
    let here : SameRange (memory old) (memory part.stored) =
    same_trans (memory old) s.0.before (memory part.stored)
    (interference_range races (memory old) s.0.before s.0.interference)
    (subst (SameRange s.0.before) (sym s.0.stored) (scattered_range s.0.before (take n addrs) (take n written))) in
    same_trans (memory old) (memory part.stored) (memory new) here
    (parts_range races parts part.stored new (drop n addrs) (drop n written) s.1)

pub does_range : {State : Type 0} (device : Device State) (races : Bool) (old new : Sightings) (buffers : List Buffer)
    (s t : State) (len : ℕ) (any : Bool) → DoesRaced device races old new buffers s t len any
    → SameRange (memory old) (memory new)
does_range device races old new buffers s t len any d =
    same_trans (memory old) (memory d.read_to) (memory new) (loads_range races old d.read_to d.reads)
    (parts_range races d.parts d.read_to new (writable_of buffers) d.written d.stores)

-- and buffers stay good
pub good_same : (m n : Memory) (buffers : List Buffer) → SameRange m n → Good m buffers → Good n buffers
good_same m n buffers same good =
    record { inside = by buffers good.inside; few = good.few; fits = good.fits }
  where
    by : (buffers : List Buffer) → All (Within m) buffers → All (Within n) buffers
    by [] inside = All-nil (Within n)
    by (b ∷ buffers) inside =
        All-cons (Within n) b buffers
        (inside_same m n b.segment.addr b.segment.len same (All-head (Within m) b buffers inside))
        (by buffers (All-tail (Within m) b buffers inside))

-- ---- of a guest that stands still

pub one_still : (old new : Sightings) → Loads false old new → memory new ≡ memory old
one_still old new loads = loads.interference new.now loads.later (omega arith)

pub does_still : {State : Type 0} (device : Device State) (old new : Sightings) (buffers : List Buffer) (s t : State)
    (len : ℕ) (any : Bool) → All (Within (memory old)) buffers → DoesRaced device false old new buffers s t len any
    → Does device (memory old) (memory new) buffers s t len any
does_still device old new buffers s t len any inside d =
    let read = read_still old d.read_to buffers d.readable inside d.reads d.each_read in
    record {
      written = d.written;
      gives = rw read at d.gives;
      each = d.each;
      memory = stored_as d.parts d.read_to new (writable_of buffers) d.written d.stores
          ∙ ap (λ (m : Memory). scattered m (writable_of buffers) d.written) (one_still old d.read_to d.reads);
      len_is = d.len_is;
      any_is = d.any_is;
    }

-- ---- what a handler answers

module _ {State E : Type 0} (device : Device State) (Refuses : State → List ℕ → List Buffer → E → Type 0) (old new : Memory)
    (buffers : List Buffer) (s t : State) where
  -- what it does is what the definitions of chain say
  pub does_as : (r : Result Used E) → Good old buffers
      → IfOk r (λ used. DoesRaced device false (still old) (still new) buffers s t used.len used.wrote)
      → IfOk r (λ used. Does device old new buffers s t used.len used.wrote)
  does_as (Ok used) good d = does_still device (still old) (still new) buffers s t used.len used.wrote good.inside d
  does_as (Err why) good d = d

  -- and what it leaves, it leaves by the memory's bytes
  pub refuses_as : (r : Result Used E) → Good old buffers
      → IfErr r (RefusesRaced Refuses false (still old) (still new) buffers s)
      → IfErr r (Refuses s (readable_of old buffers) buffers)
  refuses_as (Ok used) good h = h
  refuses_as (Err why) good h =
      subst (λ (l : List ℕ). Refuses s l buffers why)
      (read_still (still old) (still new) buffers h.readable good.inside h.reads h.each_read) h.refuses

  pub range_as : (r : Result Used E)
      → IfOk r (λ used. DoesRaced device false (still old) (still new) buffers s t used.len used.wrote)
      → IfErr r (RefusesRaced Refuses false (still old) (still new) buffers s) → SameRange old new
  range_as (Ok used) d h = does_range device false (still old) (still new) buffers s t used.len used.wrote d
  range_as (Err why) d h = loads_range false (still old) (still new) h.reads
