-- What a memory was seen as, access by access.
use Rattle.std.proofs.Common.{◌≡◌, ◌∙◌, ℕ, suc, ◌+◌, ◌-◌, ◌≤◌, Bool, true, false, List, [], ◌∷◌, zero, length, drop, take, refl, sym, ap, subst, arith, inl, inr, length-take, length-append, length-drop}
use Rattle.std.proofs.lemmas.Bool.{cases_lt}
use Rattle.std.proofs.lemmas.List.{places, same_lists}
use Rattle.std.specs.Int.{byte_at, bytes_low_first}
use Rattle.std.specs.List.{range_with_len}
use Rattle.byteorder.specs.Endian.{little_bytes}
use Rattle.guest_memory.specs.declared.spec.RegionSpec.{RegionSpec}
use Rattle.guest_memory.specs.Faults.{zeroed_regions}
use Rattle.guest_memory.specs.Memory.{Memory, Inside, SameRange, part_of, put}
use Rattle.guest_memory.proofs.Ranges.{length-put_at, put_range, put_bytes, same_trans}
use Rattle.shared_memory.specs.Sightings.{GuestWrites, Loads, Stores, memory}
use Rattle.shared_memory.specs.Bytes.{StoresEach}
use Rattle.shared_memory.proofs.Sightings.{interference_none, same_back}
use Rattle.racing_memory.specs.Past.{Access, Seen, Stood, behind, newest, seen_again, sightings_of, stored_again}

-- an access leaves the range
behind_range : (access : Access) (m : Memory) → SameRange m (behind access m)
behind_range access m = by_kind access.addr access.bytes access.stores
  where
    by_kind : (a : ℕ) (bs : List ℕ) (stores : Bool)
        → SameRange m (behind (record { addr = a; bytes = bs; stores = stores }) m)
    by_kind a bs true = put_range m a bs
    by_kind a bs false =
        let same = put_range m a bs in
        record { base = same.base; size = same.size; gaps = same.gaps }

-- whatever was seen last, the range is that of the regions
pub newest_range : (rs : List RegionSpec) (stood : Stood) (past : List Access)
    → SameRange (zeroed_regions rs) (newest rs stood past)
newest_range rs stood [] =
    record { base = refl; size = length-put_at (zeroed_regions rs).bytes 0 stood.bytes; gaps = refl }
newest_range rs stood (access ∷ past) =
    same_trans (zeroed_regions rs) (newest rs stood past) (newest rs stood (access ∷ past)) (newest_range rs stood past)
    (behind_range access (newest rs stood past))

-- what was seen last stands at the end of the sightings
pub now_is : (s : Seen) → memory (sightings_of s) ≡ newest s.regions s.stood s.past
now_is s =
    let none : length s.past - length s.past ≡ 0 = omega arith in
    ap (λ (k : ℕ). newest s.regions s.stood (drop k s.past)) none

-- what was seen before an access stays
kept : (stores : Bool) (s : Seen) (a : ℕ) (bs : List ℕ) (k : ℕ) → k ≤ length s.past
    → (sightings_of (seen_again stores s a bs)).at k ≡ (sightings_of s).at k
kept stores s a bs k h =
    let next : suc (length s.past) - k ≡ suc (length s.past - k) = omega (arith, h) in
    ap (λ (j : ℕ). newest s.regions s.stood (drop j (seen_again stores s a bs).past)) next

-- a load adds one sighting
pub loads_noted : (s : Seen) (a : ℕ) (bs : List ℕ) → Loads true (sightings_of s) (sightings_of (seen_again false s a bs))
loads_noted s a bs = record {
  later = omega arith;
  kept = kept false s a bs;
  interference = λ k from to. elim (cases_lt k (length s.past + 1)) [
    | inl sooner ↦
        let last : k ≡ length s.past = omega (arith, from, sooner) in
        let same : (sightings_of (seen_again false s a bs)).at k ≡ memory (sightings_of s) =
        kept false s a bs k (omega (arith, last)) ∙ ap (λ (j : ℕ). (sightings_of s).at j) last in
        subst (λ (m : Memory). GuestWrites (memory (sightings_of s)) m) (sym same)
        (interference_none true (memory (sightings_of s)))
    | inr later ↦
        let first : suc (length s.past) - k ≡ 0 = omega (arith, later) in
        let load : Access = record { addr = a; bytes = bs; stores = false } in
        let m = newest s.regions s.stood s.past in
        let new : (sightings_of (seen_again false s a bs)).at k ≡ behind load m =
        ap (λ (j : ℕ). newest s.regions s.stood (drop j (seen_again false s a bs).past)) first in
        subst (λ (n : Memory). GuestWrites (memory (sightings_of s)) n) (sym new)
        (rw (now_is s) (record { range = behind_range load m; pages = refl }))
  ];
}

-- and what was noted stands there
pub now_noted : (stores : Bool) (s : Seen) (a : ℕ) (bs : List ℕ)
    → memory (sightings_of (seen_again stores s a bs))
    ≡ behind (record { addr = a; bytes = bs; stores = stores }) (memory (sightings_of s))
now_noted stores s a bs =
    now_is (seen_again stores s a bs)
    ∙ ap (λ (m : Memory). behind (record { addr = a; bytes = bs; stores = stores }) m) (sym (now_is s))

part_of-put : (m : Memory) (a : ℕ) (bs : List ℕ) → Inside m a (length bs) → part_of (put m a bs) a (length bs) ≡ bs
part_of-put m a bs inside =
    ap (λ (x : Memory). part_of x a (length bs)) (put_bytes m a bs inside)
    ∙ same_lists _ _ (simp (length-take, length-append, length-drop) (omega (arith, inside.above, inside.below)))
    (λ k d h. grind (arith, places, inside.above, inside.below))

pub reads_noted : (s : Seen) (a : ℕ) (bs : List ℕ) → Inside (memory (sightings_of s)) a (length bs)
    → bs ≡ part_of (memory (sightings_of (seen_again false s a bs))) a (length bs)
reads_noted s a bs inside =
    sym (ap (λ (m : Memory). part_of m a (length bs)) (now_noted false s a bs)
    ∙ part_of-put (memory (sightings_of s)) a bs inside)

pub stores_noted : (s : Seen) (a k v : ℕ) (bs : List ℕ) → bs ≡ little_bytes k v
    → Stores true (sightings_of s) (sightings_of (seen_again true s a bs)) a k v
stores_noted s a k v bs e = record {
  extends = record { next = omega arith; kept = kept true s a bs };
  before = memory (sightings_of s);
  interference = interference_none true (memory (sightings_of s));
  stored = now_noted true s a bs ∙ ap (λ (bs : List ℕ). put (memory (sightings_of s)) a bs) e;
}

-- bytes that are stored one after another
pub each_noted : (s : Seen) (a : ℕ) (bs : List ℕ)
    → StoresEach true (sightings_of s) (sightings_of (stored_again s a bs)) (range_with_len a (length bs)) bs
each_noted s a [] = refl
each_noted s a (x ∷ bs) = record {
  stored = sightings_of (seen_again true s a (x ∷ []));
  stores = record {
    extends = record { next = omega arith; kept = kept true s a (x ∷ []) };
    before = memory (sightings_of s);
    interference = interference_none true (memory (sightings_of s));
    stored = now_noted true s a (x ∷ []);
  };
  later = each_noted (seen_again true s a (x ∷ [])) (a + 1) bs;
}

pub each_range : (s : Seen) (a : ℕ) (bs : List ℕ)
    → SameRange (memory (sightings_of s)) (memory (sightings_of (stored_again s a bs)))
each_range s a bs =
    let new = stored_again s a bs in
    rw (now_is s, now_is new) (same_trans (newest s.regions s.stood s.past) (zeroed_regions s.regions)
    (newest s.regions s.stood new.past) (same_back (zeroed_regions s.regions) (newest s.regions s.stood s.past)
    (newest_range s.regions s.stood s.past)) (newest_range s.regions s.stood new.past))

-- the lowest bytes of a number are the first of those of a word
pub lowest_bytes : (i k n v : ℕ) → n ≤ k → take n (bytes_low_first i k v) ≡ bytes_low_first i n v
lowest_bytes i k zero v h = refl
lowest_bytes i zero (suc n) v h = absurd (omega arith)
lowest_bytes i (suc k) (suc n) v h =
    ap (λ (bs : List ℕ). byte_at i v ∷ bs) (lowest_bytes (suc i) k n v (omega arith))
