-- A memory that nobody writes is seen at each access as it stood.
use Rattle.std.proofs.Common.{◌≡◌, ◌∙◌, ℕ, zero, suc, ◌+◌, ◌-◌, ◌≤◌, Bool, true, false, List, [], ◌∷◌, length, take, drop, refl, sym, ap, arith, length-append, length-drop, length-take}
use Rattle.std.specs.Prelude.{All}
use Rattle.std.proofs.lemmas.List.{places, same_lists}
use Rattle.std.proofs.lemmas.List.Elements.{All-head, All-tail}
use Rattle.guest_memory.specs.declared.spec.RegionSpec.{RegionSpec}
use Rattle.guest_memory.specs.Faults.{zeroed_regions}
use Rattle.guest_memory.specs.Memory.{Gap, Memory, Inside, SameRange, part_of, put_at, stored, with_pages}
use Rattle.guest_memory.proofs.Ranges.{length-part_of, stored_bytes}
use Rattle.racing_memory.specs.Past.{Access, IsFound, Seen, Stood, behind, filled, marks_by, newest, sightings_of}

-- bytes that are put where they stand
put_at-own : (xs : List ℕ) (i n : ℕ) → i + n ≤ length xs → put_at xs i (take n (drop i xs)) ≡ xs
put_at-own xs i n below =
    same_lists _ _ (simp (length-take, length-append, length-drop) (omega (arith, below)))
    (λ k d h. grind (arith, places, below))

stored-own : (m : Memory) (a n : ℕ) → Inside m a n → stored m a (part_of m a n) ≡ m
stored-own m a n inside =
    let long : length (part_of m a n) ≡ n = length-part_of m a n inside in
    stored_bytes m a (part_of m a n) (rw long inside)
    ∙ ap (λ (bytes : List ℕ). record m { bytes = bytes })
    (put_at-own m.bytes (a - m.base) n (omega (arith, inside.above, inside.below)))

-- marks leave all else of a memory
marked_is : (stores : Bool) (a n : ℕ) (m : Memory) → marks_by stores a n m ≡ with_pages (marks_by stores a n m).pages m
marked_is true a n m = refl
marked_is false a n m = refl

-- so an access that found what stood there leaves it
found_left : (m : Memory) (access : Access) → IsFound m access → behind access m ≡ m
found_left m access found =
    ap (λ (k : Memory). stored k access.addr access.bytes)
    (marked_is access.stores access.addr (length access.bytes) m ∙ ap (λ (bits : List Bool). with_pages bits m) found.pages)
    ∙ ap (λ (bytes : List ℕ). stored m access.addr bytes) found.bytes
    ∙ stored-own m access.addr (length access.bytes) found.inside

pub newest_found : (rs : List RegionSpec) (stood : Stood) (past : List Access) (k : ℕ)
    → All (IsFound (filled rs stood)) past → newest rs stood (drop k past) ≡ filled rs stood
newest_found rs stood [] zero found = refl
newest_found rs stood [] (suc k) found = refl
newest_found rs stood (access ∷ past) zero found =
    ap (λ (m : Memory). behind access m)
    (newest_found rs stood past zero (All-tail (IsFound (filled rs stood)) access past found))
    ∙ found_left (filled rs stood) access (All-head (IsFound (filled rs stood)) access past found)
newest_found rs stood (access ∷ past) (suc k) found =
    newest_found rs stood past k (All-tail (IsFound (filled rs stood)) access past found)

pub seen_as_it_stood : (s : Seen) → All (IsFound (filled s.regions s.stood)) s.past → (k : ℕ)
    → (sightings_of s).at k ≡ filled s.regions s.stood
seen_as_it_stood s found k = newest_found s.regions s.stood s.past (length s.past - k) found

-- each memory of a range may stand there
pub may_stand : (rs : List RegionSpec) (m : Memory) → SameRange (zeroed_regions rs) m
    → filled rs (record { bytes = m.bytes; pages = m.pages }) ≡ m
may_stand rs m same =
    let whole : put_at (zeroed_regions rs).bytes 0 m.bytes ≡ m.bytes = put_at-whole (zeroed_regions rs).bytes m.bytes same.size in
    ap (λ (bytes : List ℕ). record (zeroed_regions rs) { bytes = bytes; pages = m.pages }) whole
    ∙ ap (λ (base : ℕ). record (zeroed_regions rs) { base = base; bytes = m.bytes; pages = m.pages }) (sym same.base)
    ∙ ap (λ (gaps : List Gap). record m { gaps = gaps }) (sym same.gaps)
  where
    put_at-whole : (xs bs : List ℕ) → length bs ≡ length xs → put_at xs 0 bs ≡ bs
    put_at-whole xs bs long =
        same_lists _ _ (simp (length-take, length-append, length-drop) (omega (arith, long)))
        (λ k d h. grind (arith, places, long))
