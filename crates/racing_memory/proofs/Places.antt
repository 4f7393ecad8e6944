-- In which region a range lies.
use Rattle.std.proofs.Common.{◌≡◌, ◌∙◌, ◌↔◌, ℕ, ◌+◌, ◌<◌, ◌≤◌, ◌^◌, Bool, true, false, List, [], ◌∷◌, length, map, get_or, Option, Some, None, refl, sym, ap, subst, arith, cond}
use Rattle.std.specs.Prelude.{IsTrue, nat_le, nat_lt, not}
use Rattle.std.specs.List.{position, position_or_len}
use Rattle.std.specs.Option.{unwrap_or}
use Rattle.std.proofs.lemmas.List.{get_or-map, length-map, length-replicate}
use Rattle.guest_memory.specs.declared.spec.RegionSpec.{RegionSpec}
use Rattle.guest_memory.specs.Faults.{zeroed_region, zeroed_regions}
use Rattle.guest_memory.specs.Memory.{Inside, Memory}
use Rattle.guest_memory.specs.Regions.{Region, IsIn, end_of, touches}
use Rattle.guest_memory.proofs.InRegions.{found_holds, found_inside, found_touches, inside_found, more_apart, none_inside, one_apart, region_fits, touches_found}
use Rattle.guest_memory.proofs.Ranges.{inside_same}
use Rattle.shared_memory.specs.Sightings.{memory}
use Rattle.shared_memory.proofs.Sightings.{same_back}
use Rattle.racing_memory.specs.Past.{Access, MakeMemory, Seen, Stood, newest, sightings_of}
use Rattle.racing_memory.specs.Words.{reaches}
use Rattle.racing_memory.proofs.Seeing.{newest_range, now_is}

-- a range that lies in what was seen last lies in the regions
inside_regions : (rs : List RegionSpec) (stood : Stood) (past : List Access) (a n : ℕ) → Inside (newest rs stood past) a n
    → Inside (zeroed_regions rs) a n
inside_regions rs stood past a n h =
    inside_same (newest rs stood past) (zeroed_regions rs) a n
    (same_back (zeroed_regions rs) (newest rs stood past) (newest_range rs stood past)) h

inside_seen : (s : Seen) (a n : ℕ) → Inside (memory (sightings_of s)) a n → Inside (zeroed_regions s.regions) a n
inside_seen s a n h =
    inside_regions s.regions s.stood s.past a n (subst (λ (m : Memory). Inside m a n) (now_is s) h)

-- and the other way
seen_inside : (s : Seen) (a n : ℕ) → Inside (zeroed_regions s.regions) a n → Inside (memory (sightings_of s)) a n
seen_inside s a n h =
    subst (λ (m : Memory). Inside m a n) (sym (now_is s))
    (inside_same (zeroed_regions s.regions) (newest s.regions s.stood s.past) a n (newest_range s.regions s.stood s.past) h)

tells_seen : (s : Seen) (a n : ℕ) (t : Bool) → IsTrue t ↔ Inside (zeroed_regions s.regions) a n
    → IsTrue t ↔ Inside (memory (sightings_of s)) a n
tells_seen s a n t tells = (λ yes. seen_inside s a n (tells.0 yes), λ inside. tells.1 (inside_seen s a n inside))

-- the region x at a place, with zeros
zeroed_at : (rs : List RegionSpec) (i : ℕ) (x : RegionSpec) → i < length (map zeroed_region rs) → x ≡ get_or rs i x
    → zeroed_region x ≡ get_or (map zeroed_region rs) i (zeroed_region x)
zeroed_at rs i x below is =
    ap zeroed_region is
    ∙ sym (get_or-map zeroed_region rs i x (zeroed_region x) (omega (arith, below, length-map rs zeroed_region)))

end_zeroed : (x : RegionSpec) → end_of (zeroed_region x) ≡ x.base + x.len
end_zeroed x = ap (λ (n : ℕ). x.base + n) (length-replicate {A = ℕ} x.len 0)

-- one region that ends by 2^64 makes a memory
pub one_makes : (rs : List RegionSpec) (x : RegionSpec) → rs ≡ x ∷ [] → x.base + x.len ≤ 2 ^ 64 → MakeMemory rs
one_makes rs x is fits = subst MakeMemory (sym is) (one_apart (zeroed_region x) (omega (arith, fits, end_zeroed x)))

-- and one more in front of some
pub more_make : (r s : RegionSpec) (rs : List RegionSpec) → r.base + r.len < s.base → MakeMemory (s ∷ rs)
    → MakeMemory (r ∷ s ∷ rs)
more_make r s rs below rest =
    more_apart (zeroed_region r) (zeroed_region s) (map zeroed_region rs) (omega (arith, below, end_zeroed r)) rest

-- a region is found where it is with zeros
first_reached : (rs : List RegionSpec) (a : ℕ)
    → position_or_len (reaches a) rs ≡ position_or_len (touches a) (map zeroed_region rs)
first_reached [] a = refl
first_reached (r ∷ rs) a = ap (λ (k : ℕ). cond (not (reaches a r)) (1 + k) 0) (first_reached rs a)

among_zeros : (rs : List RegionSpec) (a : ℕ) → position (reaches a) rs ≡ position (touches a) (map zeroed_region rs)
among_zeros rs a =
    ap (λ (k : ℕ). cond (nat_lt k (length rs)) (Some k) None) (first_reached rs a)
    ∙ ap (λ (n : ℕ). cond (nat_lt (position_or_len (touches a) (map zeroed_region rs)) n)
    (Some (position_or_len (touches a) (map zeroed_region rs))) None) (sym (length-map rs zeroed_region))

-- the address lies in the region that was found, or is its end
pub region_touched : (rs : List RegionSpec) (a i : ℕ) (o : Option ℕ) (x : RegionSpec)
    → o ≡ position (reaches a) rs → o ≡ Some i → x ≡ get_or rs i x → reaches a x ≡ true
region_touched rs a i o x searched some is =
    let found = searched ∙ among_zeros rs a in
    let at = found_touches (map zeroed_region rs) a i (zeroed_region x) (sym found ∙ some) in
    touches_found (map zeroed_region rs) a i o (zeroed_region x) found some (zeroed_at rs i x at.0 is)

-- the test of a range in a memory of these regions, once one of them is found
pub room_tells : (rs : List RegionSpec) (stood : Stood) (past : List Access) (a n i room : ℕ) (o : Option ℕ) (x : RegionSpec) (s : Seen)
    → MakeMemory rs → record { regions = rs; stood = stood; past = past } ≡ s
    → o ≡ position (reaches a) rs → o ≡ Some i → x ≡ get_or rs i x
    → a + room ≡ x.base + x.len → IsTrue (nat_le n room) ↔ Inside (memory (sightings_of s)) a n
room_tells rs stood past a n i room o x s h view searched some is rest =
    let found = sym (searched ∙ among_zeros rs a) ∙ some in
    let at = found_touches (map zeroed_region rs) a i (zeroed_region x) found in
    subst (λ (s : Seen). IsTrue (nat_le n room) ↔ Inside (memory (sightings_of s)) a n) view
    (tells_seen (record { regions = rs; stood = stood; past = past }) a n (nat_le n room)
    (found_holds (map zeroed_region rs) a n i room (zeroed_region x) (zeroed_regions rs) refl h found
    (zeroed_at rs i x at.0 is) (rest ∙ sym (end_zeroed x))))

-- and where there is none
pub none_tells : (rs : List RegionSpec) (stood : Stood) (past : List Access) (a n : ℕ) (o : Option ℕ) (s : Seen)
    → MakeMemory rs → record { regions = rs; stood = stood; past = past } ≡ s
    → o ≡ position (reaches a) rs → o ≡ None → IsTrue false ↔ Inside (memory (sightings_of s)) a n
none_tells rs stood past a n o s h view searched none =
    subst (λ (s : Seen). IsTrue false ↔ Inside (memory (sightings_of s)) a n) view
    (tells_seen (record { regions = rs; stood = stood; past = past }) a n false
    (none_inside (map zeroed_region rs) a n o h (searched ∙ among_zeros rs a) none))

-- the place i is one of a region in which the range lies
pub record IsPlace (rs : List RegionSpec) (i a n : ℕ) : Type 0 where
  pub within : i < length rs
  pub above : (d : RegionSpec) → (get_or rs i d).base ≤ a
  pub below : (d : RegionSpec) → a + n ≤ (get_or rs i d).base + (get_or rs i d).len

-- what a search that must find answers
pub place_found : (rs : List RegionSpec) (stood : Stood) (past : List Access) (a n i : ℕ) (o : Option ℕ) (s : Seen)
    → MakeMemory rs → record { regions = rs; stood = stood; past = past } ≡ s → Inside (newest s.regions s.stood s.past) a n
    → o ≡ position (reaches a) rs → i ≡ unwrap_or o 0 → IsPlace s.regions i a n
place_found rs stood past a n i o s h view inside searched is =
    subst (λ (s : Seen). IsPlace s.regions i a n) view (record {
      within = omega (arith, (found_at none).0, length-map rs zeroed_region);
      above = λ d. (lies d).above;
      below = λ d. omega (arith, (lies d).below, end_zeroed (get_or rs i d));
    })
  where
    none : Region
    none = record { base = 0; bytes = [] }

    found_at : (d : Region) → (i < length (map zeroed_region rs)) × IsIn (get_or (map zeroed_region rs) i d) a n
    found_at d =
        found_inside (map zeroed_region rs) a n d o i h
        (inside_regions rs stood past a n (subst (λ (s : Seen). Inside (newest s.regions s.stood s.past) a n) (sym view) inside))
        (searched ∙ among_zeros rs a) is

    lies : (d : RegionSpec) → IsIn (zeroed_region (get_or rs i d)) a n
    lies d =
        let at = found_at (zeroed_region d) in
        subst (λ (r : Region). IsIn r a n)
        (get_or-map zeroed_region rs i d (zeroed_region d) (omega (arith, at.0, length-map rs zeroed_region))) at.1

-- a range that lies in the memory ends by 2^64
pub seen_ends : (rs : List RegionSpec) (stood : Stood) (past : List Access) (a n : ℕ) (s : Seen) → MakeMemory rs
    → record { regions = rs; stood = stood; past = past } ≡ s → Inside (memory (sightings_of s)) a n → a + n ≤ 2 ^ 64
seen_ends rs stood past a n s h view inside =
    let none : Region = record { base = 0; bytes = [] } in
    let lies = subst (λ (s : Seen). Inside (memory (sightings_of s)) a n) (sym view) inside in
    let at = inside_found (map zeroed_region rs) a n none h (inside_seen (record { regions = rs; stood = stood; past = past }) a n lies) in
    omega (arith, at.3.below, region_fits (map zeroed_region rs) at.0 none h at.2)

pub newest_ends : (rs : List RegionSpec) (stood : Stood) (past : List Access) (a n : ℕ) (s : Seen) → MakeMemory rs
    → record { regions = rs; stood = stood; past = past } ≡ s → Inside (newest s.regions s.stood s.past) a n → a + n ≤ 2 ^ 64
newest_ends rs stood past a n s h view inside =
    seen_ends rs stood past a n s h view (subst (λ (m : Memory). Inside m a n) (sym (now_is s)) inside)

-- where there is one region, the range lies in it
pub only_place : (rs : List RegionSpec) (stood : Stood) (past : List Access) (a n : ℕ) (s : Seen)
    → MakeMemory rs → record { regions = rs; stood = stood; past = past } ≡ s → Inside (newest s.regions s.stood s.past) a n → length rs ≡ 1
    → IsPlace s.regions 0 a n
only_place rs stood past a n s h view inside one =
    let found = place_found rs stood past a n (unwrap_or (position (reaches a) rs) 0) (position (reaches a) rs) s h view inside refl refl in
    let same : length rs ≡ length s.regions = ap (λ (s : Seen). length s.regions) view in
    let first : unwrap_or (position (reaches a) rs) 0 ≡ 0 = omega (arith, found.within, same, one) in
    subst (λ (i : ℕ). IsPlace s.regions i a n) first found
