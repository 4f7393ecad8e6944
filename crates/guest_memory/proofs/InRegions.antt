-- A range of a memory in terms of its regions: where it lies, what its bytes are, and what a write leaves.
use Rattle.std.proofs.Common.{◌≡◌, ◌↔◌, inl, inr, ℕ, zero, suc, ◌+◌, ◌-◌, ◌≤◌, ◌<◌, ◌^◌, List, [], ◌∷◌, ◌++◌, length, take, drop, set, get_or, replicate, refl, sym, subst, ◌∙◌, ap, arith, Bool, true, false, Option, Some, None, append_assoc, length-append, length-take, length-drop}
use Rattle.std.specs.Prelude.{nat_le, IsTrue}
use Rattle.std.specs.Option.{unwrap_or}
use Rattle.std.proofs.lemmas.Bool.{cases_lt}
use Rattle.std.proofs.lemmas.Bool.Decides.{nat_tests, same_from_decides}
use Rattle.std.proofs.lemmas.List.{places, same_lists, length-replicate, length-set}
use Rattle.std.specs.List.{position, position_or_len}
use Rattle.std.proofs.lemmas.List.Quantifiers.{position-Some}
use Rattle.guest_memory.specs.Memory.{Gap, Memory, Inside, MissesAll, IsRest, is_inside, part_of, put_at, stored, up_to_gap, zeroed}
use Rattle.guest_memory.specs.Regions.{Region, end_of, in_front, memory_of, AreApart, AreRegions, IsIn, touches}
use Rattle.guest_memory.proofs.Gaps.{misses-none, misses-more, misses-first, misses-rest, up_to_gap-none, up_to_gap-behind, up_to_gap-before}
use Rattle.guest_memory.proofs.Ranges.{is_inside-tells, length-put_at}

-- a region's bytes are others of the same number
abbrev pub with_bytes : Region → List ℕ → Region
with_bytes r bytes = record { base = r.base; bytes = bytes }

-- the region with the bytes bs written from address a on
abbrev pub with_put : Region → ℕ → List ℕ → Region
with_put r a bs = with_bytes r (put_at r.bytes (a - r.base) bs)

-- the bytes between the first of r and the first of m
abbrev head_of : Region → Memory → List ℕ
head_of r m = r.bytes ++ replicate (m.base - end_of r) 0

length-head_of : (r : Region) (m : Memory) → end_of r ≤ m.base → r.base + length (head_of r m) ≡ m.base
length-head_of r m apart =
    omega (
      arith,
      length-append r.bytes (replicate (m.base - end_of r) 0),
      length-replicate {A = ℕ}
          (m.base - end_of r) 0,
    )

length-in_front : (r : Region) (m : Memory) → end_of r ≤ m.base
    → r.base + length (in_front r m).bytes ≡ m.base + length m.bytes
unfolding in_front
length-in_front r m apart =
    omega (
      arith,
      length-append r.bytes (replicate (m.base - end_of r) 0 ++ m.bytes),
      length-append
          (replicate (m.base - end_of r) 0) m.bytes,
      length-replicate {A = ℕ} (m.base - end_of r) 0,
    )

-- a range behind the region lies in the memory that follows it
later_inside : (r : Region) (m : Memory) (a n : ℕ) → end_of r ≤ m.base → m.base ≤ a
    → Inside (in_front r m) a n → Inside m a n
unfolding in_front
later_inside r m a n apart above h = record {
  above = above;
  below = omega (arith, h.below, length-in_front r m apart);
  clear = misses-rest _ _ a n h.clear;
}

inside_later : (r : Region) (m : Memory) (a n : ℕ) → end_of r ≤ m.base → Inside m a n
    → Inside (in_front r m) a n
unfolding in_front
inside_later r m a n apart h = record {
  above = omega (arith, h.above);
  below = omega (arith, h.below, length-in_front r m apart);
  clear = misses-more _ m.gaps a n (inr h.above) h.clear;
}

-- a list behind another, from a place in it on
drop_behind : (xs ys : List ℕ) (i j n : ℕ) → i ≡ length xs + j
    → take n (drop i (xs ++ ys)) ≡ take n (drop j ys)
drop_behind xs ys i j n e =
    same_lists _ _ (simp (length-take, length-append, length-drop) (omega arith))
    (λ k d h. grind (arith, places))

-- its bytes are the same
part_later : (r : Region) (m : Memory) (a n : ℕ) → end_of r ≤ m.base → m.base ≤ a
    → part_of (in_front r m) a n ≡ part_of m a n
unfolding in_front
part_later r m a n apart above =
    ap (λ (xs : List ℕ). take n (drop (a - r.base) xs))
    (sym (append_assoc r.bytes (replicate (m.base - end_of r) 0) m.bytes))
    ∙ drop_behind (head_of r m) m.bytes (a - r.base) (a - m.base) n (omega (arith, length-head_of r m apart))

-- a write behind a list
put_at_behind : (xs ys : List ℕ) (i j : ℕ) (bs : List ℕ) → i ≡ length xs + j
    → put_at (xs ++ ys) i bs ≡ xs ++ put_at ys j bs
put_at_behind xs ys i j bs e =
    same_lists _ _ (simp (length-take, length-append, length-drop) (omega arith))
    (λ k d h. grind (arith, places))

-- a write behind the region is one to the memory that follows it
put_later : (r : Region) (m : Memory) (a : ℕ) (bs : List ℕ) → end_of r ≤ m.base → m.base ≤ a
    → stored (in_front r m) a bs ≡ in_front r (stored m a bs)
unfolding in_front
put_later r m a bs apart above =
    let ws = up_to_gap m.gaps a bs in
    ap (λ (ws : List ℕ). record (in_front r m) { bytes = put_at (in_front r m).bytes (a - r.base) ws })
    (up_to_gap-behind _ m.gaps a bs above)
    ∙ ap (λ (xs : List ℕ). record (in_front r m) { bytes = xs })
    (ap (λ (xs : List ℕ). put_at xs (a - r.base) ws)
    (sym (append_assoc r.bytes (replicate (m.base - end_of r) 0) m.bytes))
    ∙ put_at_behind (head_of r m) m.bytes (a - r.base) (a - m.base) ws
    (omega (arith, length-head_of r m apart))
    ∙ append_assoc r.bytes (replicate (m.base - end_of r) 0) (put_at m.bytes (a - m.base) ws))

-- bytes at the front of a list that another follows
take_front : (xs ys : List ℕ) (i n : ℕ) → i + n ≤ length xs → take n (drop i (xs ++ ys)) ≡ take n (drop i xs)
take_front xs ys i n within =
    same_lists _ _ (simp (length-take, length-append, length-drop) (omega arith))
    (λ k d h. grind (arith, places))

-- the bytes of a range in the first region are the region's
part_first : (r : Region) (m : Memory) (a n : ℕ) → IsIn r a n
    → part_of (in_front r m) a n ≡ take n (drop (a - r.base) r.bytes)
unfolding in_front
part_first r m a n isin =
    take_front r.bytes (replicate (m.base - end_of r) 0 ++ m.bytes) (a - r.base) n
    (omega (arith, isin.above, isin.below))

-- a write at the front of a list that another follows
put_at_front : (xs ys : List ℕ) (i : ℕ) (bs : List ℕ) → i ≤ length xs
    → put_at (xs ++ ys) i (take (length xs - i) bs) ≡ put_at xs i bs ++ ys
put_at_front xs ys i bs within =
    same_lists _ _ (simp (length-take, length-append, length-drop) (omega arith))
    (λ k d h. grind (arith, places))

-- a write in the region stays in it
put_first : (r : Region) (m : Memory) (a : ℕ) (bs : List ℕ) → end_of r < m.base → r.base ≤ a → a ≤ end_of r
    → stored (in_front r m) a bs ≡ in_front (with_put r a bs) m
unfolding in_front
put_first r m a bs apart above below =
    let same : length (put_at r.bytes (a - r.base) bs) ≡ length r.bytes =
    length-put_at r.bytes (a - r.base) bs in
    let room : end_of r - a ≡ length r.bytes - (a - r.base) = omega arith in
    ap (λ (ws : List ℕ). record (in_front r m) { bytes = put_at (in_front r m).bytes (a - r.base) ws })
    (up_to_gap-before _ m.gaps a bs (omega arith) ∙ ap (λ (k : ℕ). take k bs) room)
    ∙ ap (λ (xs : List ℕ). record (in_front r m) { bytes = xs })
    (put_at_front r.bytes (replicate (m.base - end_of r) 0 ++ m.bytes) (a - r.base) bs (omega arith))
    ∙ ap (λ (k : ℕ). record {
      base = r.base;
      bytes = put_at r.bytes (a - r.base) bs ++ (replicate (m.base - (r.base + k)) 0 ++ m.bytes);
      gaps = record { start = r.base + k; end = m.base } ∷ m.gaps;
      pages = m.pages;
    }) (sym same)

-- what the words compute to
one_region_is : (r : Region) → memory_of (r ∷ []) ≡ record { base = r.base; bytes = r.bytes; gaps = []; pages = [] }
unfolding memory_of
one_region_is r = refl

more_regions_are : (r s : Region) (rs : List Region)
    → memory_of (r ∷ (s ∷ rs)) ≡ in_front r (memory_of (s ∷ rs))
unfolding memory_of
more_regions_are r s rs = refl

in_front_base : (r : Region) (m : Memory) → (in_front r m).base ≡ r.base
unfolding in_front
in_front_base r m = refl

in_front_gaps : (r : Region) (m : Memory)
    → (in_front r m).gaps ≡ record { start = end_of r; end = m.base } ∷ m.gaps
unfolding in_front
in_front_gaps r m = refl

pub apart_one : (r : Region) → AreApart (r ∷ []) → end_of r ≤ 2 ^ 64
unfolding AreApart
apart_one r h = h

pub one_apart : (r : Region) → end_of r ≤ 2 ^ 64 → AreApart (r ∷ [])
unfolding AreApart
one_apart r h = h

apart_more : (r s : Region) (rs : List Region) → AreApart (r ∷ (s ∷ rs))
    → (end_of r < s.base) × AreApart (s ∷ rs)
unfolding AreApart
apart_more r s rs h = h

pub more_apart : (r s : Region) (rs : List Region) → end_of r < s.base → AreApart (s ∷ rs)
    → AreApart (r ∷ (s ∷ rs))
unfolding AreApart
more_apart r s rs first rest = (first, rest)

pub some_region : (rs : List Region) → AreApart rs → 0 < length rs
unfolding AreApart
some_region [] h = absurd h
some_region (r ∷ rs) h = omega arith

-- a memory begins where its first region does
pub first_base : (r : Region) (rs : List Region) → (memory_of (r ∷ rs)).base ≡ r.base
first_base r [] = ap (λ (m : Memory). m.base) (one_region_is r)
first_base r (s ∷ rs) = ap (λ (m : Memory). m.base) (more_regions_are r s rs)
    ∙ in_front_base r (memory_of (s ∷ rs))

-- the first region ends inside, and the last by 2^64
ends : (r : Region) (rs : List Region) → AreApart (r ∷ rs)
    → (end_of r ≤ r.base + length (memory_of (r ∷ rs)).bytes) ×
    (r.base + length (memory_of (r ∷ rs)).bytes ≤ 2 ^ 64)
ends r [] h = rw one_region_is (omega arith, omega (arith, apart_one r h))
ends r (s ∷ rs) h =
    let a = apart_more r s rs h in
    let b = first_base s rs in
    let e = ends s rs a.1 in
    rw more_regions_are (
      omega
          (arith, a.0, b, e.0, length-in_front r (memory_of (s ∷ rs)) (omega (arith, a.0, b))),
      omega (arith, a.0, b, e.1, length-in_front r (memory_of (s ∷ rs)) (omega (arith, a.0, b))),
    )

-- a range that lies in the memory ends by 2^64
pub inside_ends : (rs : List Region) (a n : ℕ) {m : Memory} → AreRegions rs → memory_of rs ≡ m → Inside m a n
    → a + n ≤ 2 ^ 64
unfolding AreApart
inside_ends [] a n regions is inside = absurd (regions.apart)
inside_ends (r ∷ rs) a n regions is inside =
    let lies = subst (λ (m : Memory). Inside m a n) (sym is) inside in
    omega (arith, lies.below, first_base r rs, (ends r rs regions.apart).1)

-- a range that ends by the end of the first region ends before each gap
ends_before : (r : Region) (rs : List Region) (a n : ℕ) → AreApart (r ∷ rs) → a + n ≤ end_of r
    → MissesAll (memory_of (r ∷ rs)).gaps a n
ends_before r [] a n h below = rw one_region_is (misses-none a n)
ends_before r (s ∷ rs) a n h below =
    let apart = apart_more r s rs h in
    rw (more_regions_are, in_front_gaps)
    (misses-more _ (memory_of (s ∷ rs)).gaps a n (inl below)
    (ends_before s rs a n apart.1 (omega (arith, apart.0, below))))

-- the regions begin no lower than the first
begins_above : (r : Region) (rs : List Region) (i : ℕ) (d : Region) → AreApart (r ∷ rs) → i < length (r ∷ rs)
    → r.base ≤ (get_or (r ∷ rs) i d).base
begins_above r rs zero d h within = omega arith
begins_above r [] (suc i) d h within = absurd (omega arith)
begins_above r (s ∷ rs) (suc i) d h within =
    let a = apart_more r s rs h in
    omega (arith, a.0, begins_above s rs i d a.1 (omega arith))

-- a range that begins in a region, or at its end, lies inside just where it lies in that region
pub inside_region : (rs : List Region) (i : ℕ) (d : Region) (a n : ℕ) → AreApart rs → i < length rs
    → (get_or rs i d).base ≤ a → a ≤ end_of (get_or rs i d) → Inside (memory_of rs) a n
    → IsIn (get_or rs i d) a n
inside_region [] i d a n h within above below inside = absurd (omega arith)
inside_region (r ∷ []) zero d a n h within above below inside =
    let one : Inside (record { base = r.base; bytes = r.bytes; gaps = []; pages = [] }) a n =
    subst (λ (m : Memory). Inside m a n) (one_region_is r) inside in
    record { above = above; below = omega (arith, one.below) }
inside_region (r ∷ []) (suc i) d a n h within above below inside = absurd (omega arith)
inside_region (r ∷ (s ∷ rs)) zero d a n h within above below inside =
    let gaps = subst (λ (gs : List Gap). MissesAll gs a n)
    (ap (λ (m : Memory). m.gaps) (more_regions_are r s rs) ∙ in_front_gaps r (memory_of (s ∷ rs)))
    inside.clear in
    let apart = (apart_more r s rs h).0 in
    let base = first_base s rs in
    let fits : a + n ≤ end_of r =
    elim (misses-first _ (memory_of (s ∷ rs)).gaps a n gaps)
    [ inl before ↦ before | inr behind ↦ absurd (omega (arith, behind, base, apart, below)) ] in
    record { above = above; below = fits }
inside_region (r ∷ (s ∷ rs)) (suc i) d a n h within above below inside =
    let apart = apart_more r s rs h in
    let base = first_base s rs in
    let begins = begins_above s rs i d apart.1 (omega arith) in
    let rest : Inside (memory_of (s ∷ rs)) a n =
    later_inside r (memory_of (s ∷ rs)) a n (omega (arith, apart.0, base))
    (omega (arith, base, begins, above))
    (subst (λ (m : Memory). Inside m a n) (more_regions_are r s rs) inside) in
    inside_region (s ∷ rs) i d a n apart.1 (omega arith) above below rest

pub region_inside : (rs : List Region) (i : ℕ) (d : Region) (a n : ℕ) → AreApart rs → i < length rs
    → IsIn (get_or rs i d) a n → Inside (memory_of rs) a n
region_inside [] i d a n h within isin = absurd (omega arith)
region_inside (r ∷ rs) zero d a n h within isin =
    let base = first_base r rs in
    let e = ends r rs h in
    record {
      above = omega (arith, base, isin.above);
      below = omega (arith, base, e.0, isin.below);
      clear =
          ends_before r rs a n h isin.below;
    }
region_inside (r ∷ []) (suc i) d a n h within isin = absurd (omega arith)
region_inside (r ∷ (s ∷ rs)) (suc i) d a n h within isin =
    let apart = apart_more r s rs h in
    let base = first_base s rs in
    subst (λ (m : Memory). Inside m a n) (sym (more_regions_are r s rs))
    (inside_later r (memory_of (s ∷ rs)) a n (omega (arith, apart.0, base))
    (region_inside (s ∷ rs) i d a n apart.1 (omega arith) isin))

-- all regions end by 2^64
pub region_fits : (rs : List Region) (i : ℕ) (d : Region) → AreApart rs → i < length rs
    → end_of (get_or rs i d) ≤ 2 ^ 64
region_fits [] i d h within = absurd (omega arith)
region_fits (r ∷ rs) zero d h within = let e = ends r rs h in omega (arith, e.0, e.1)
region_fits (r ∷ []) (suc i) d h within = absurd (omega arith)
region_fits (r ∷ (s ∷ rs)) (suc i) d h within = region_fits (s ∷ rs) i d (apart_more r s rs h).1 (omega arith)

-- the bytes of a range in a region are the region's
pub part_of_region : (rs : List Region) (i : ℕ) (d : Region) (a n : ℕ) → AreApart rs → i < length rs
    → IsIn (get_or rs i d) a n
    → part_of (memory_of rs) a n ≡ take n (drop (a - (get_or rs i d).base) (get_or rs i d).bytes)
part_of_region [] i d a n h within isin = absurd (omega arith)
part_of_region (r ∷ []) zero d a n h within isin = ap (λ (m : Memory). part_of m a n) (one_region_is r)
part_of_region (r ∷ []) (suc i) d a n h within isin = absurd (omega arith)
part_of_region (r ∷ (s ∷ rs)) zero d a n h within isin =
    ap (λ (m : Memory). part_of m a n) (more_regions_are r s rs) ∙ part_first r (memory_of (s ∷ rs)) a n isin
part_of_region (r ∷ (s ∷ rs)) (suc i) d a n h within isin =
    let apart = apart_more r s rs h in
    let base = first_base s rs in
    let begins = begins_above s rs i d apart.1 (omega arith) in
    ap (λ (m : Memory). part_of m a n) (more_regions_are r s rs)
    ∙ part_later r (memory_of (s ∷ rs)) a n (omega (arith, apart.0, base))
    (omega (arith, base, begins, isin.above))
    ∙ part_of_region (s ∷ rs) i d a n apart.1 (omega arith) isin

-- one more in front of some
more_in_front : (r : Region) (rs : List Region) → 0 < length rs
    → memory_of (r ∷ rs) ≡ in_front r (memory_of rs)
more_in_front r [] some = absurd (omega arith)
more_in_front r (s ∷ rs) some = more_regions_are r s rs

-- a write that begins in a region, or at its end, is one to that region, however many bytes it has
pub put_region : (rs : List Region) (i : ℕ) (d : Region) (a : ℕ) (bs : List ℕ) → AreApart rs → i < length rs
    → (get_or rs i d).base ≤ a → a ≤ end_of (get_or rs i d)
    → memory_of (set rs i (with_put (get_or rs i d) a bs)) ≡ stored (memory_of rs) a bs
put_region [] i d a bs h within above below = absurd (omega arith)
put_region (r ∷ []) zero d a bs h within above below =
    one_region_is (with_put r a bs)
    ∙ ap (λ (ws : List ℕ). record { base = r.base; bytes = put_at r.bytes (a - r.base) ws; gaps = []; pages = [] })
    (sym (up_to_gap-none a bs))
    ∙ ap (λ (m : Memory). stored m a bs) (sym (one_region_is r))
put_region (r ∷ []) (suc i) d a bs h within above below = absurd (omega arith)
put_region (r ∷ (s ∷ rs)) zero d a bs h within above below =
    let apart = apart_more r s rs h in
    let base = first_base s rs in
    more_regions_are (with_put r a bs) s rs
    ∙ sym (put_first r (memory_of (s ∷ rs)) a bs (omega (arith, apart.0, base)) above below)
    ∙ ap (λ (m : Memory). stored m a bs) (sym (more_regions_are r s rs))
put_region (r ∷ (s ∷ rs)) (suc i) d a bs h within above below =
    let apart = apart_more r s rs h in
    let base = first_base s rs in
    let begins = begins_above s rs i d apart.1 (omega arith) in
    let y = with_put (get_or (s ∷ rs) i d) a bs in
    more_in_front r (set (s ∷ rs) i y) (omega (arith, length-set (s ∷ rs) i y))
    ∙ ap (in_front r) (put_region (s ∷ rs) i d a bs apart.1 (omega arith) above below)
    ∙ sym (put_later r (memory_of (s ∷ rs)) a bs (omega (arith, apart.0, base))
    (omega (arith, base, begins, above)))
    ∙ ap (λ (m : Memory). stored m a bs) (sym (more_regions_are r s rs))

-- regions stay apart where one has other bytes, and as many
pub apart-with_bytes : (rs : List Region) (i : ℕ) (d : Region) (bytes : List ℕ) → AreApart rs → i < length rs
    → length bytes ≡ length (get_or rs i d).bytes → AreApart (set rs i (with_bytes (get_or rs i d) bytes))
apart-with_bytes [] i d bytes h within same = absurd (omega arith)
apart-with_bytes (r ∷ []) zero d bytes h within same = one_apart _ (omega (arith, apart_one r h, same))
apart-with_bytes (r ∷ []) (suc i) d bytes h within same = absurd (omega arith)
apart-with_bytes (r ∷ (s ∷ rs)) zero d bytes h within same =
    let apart = apart_more r s rs h in
    more_apart _ s rs (omega (arith, apart.0, same)) apart.1
apart-with_bytes (r ∷ (s ∷ rs)) (suc zero) d bytes h within same =
    let apart = apart_more r s rs h in
    more_apart r _ rs (omega (arith, apart.0))
    (apart-with_bytes (s ∷ rs) zero d bytes apart.1 (omega arith) same)
apart-with_bytes (r ∷ (s ∷ rs)) (suc (suc i)) d bytes h within same =
    let apart = apart_more r s rs h in
    more_apart r s _ (omega (arith, apart.0))
    (apart-with_bytes (s ∷ rs) (suc i) d bytes apart.1 (omega arith) same)

-- the first of more regions is found where a lies in it
found_here : (a : ℕ) (r : Region) (rs : List Region) → r.base ≤ a → a ≤ end_of r
    → position_or_len (touches a) (r ∷ rs) < length (r ∷ rs)
found_here a r rs above below =
    let test : touches a r ≡ true = grind (arith, nat_tests) in
    rw test (omega arith)

-- and one that follows it elsewhere
found_later : (a : ℕ) (r : Region) (rs : List Region) → end_of r < a
    → position_or_len (touches a) rs < length rs
    → position_or_len (touches a) (r ∷ rs) < length (r ∷ rs)
found_later a r rs above found =
    let test : touches a r ≡ false = grind (arith, nat_tests) in
    rw test (omega arith)

-- a range that lies inside begins in a region, or at its end
pub inside_some : (rs : List Region) (a n : ℕ) → AreApart rs → Inside (memory_of rs) a n
    → position_or_len (touches a) rs < length rs
inside_some [] a n h inside = absurd (omega (arith, some_region [] h))
inside_some (r ∷ []) a n h inside =
    let one : Inside (record { base = r.base; bytes = r.bytes; gaps = []; pages = [] }) a n =
    subst (λ (m : Memory). Inside m a n) (one_region_is r) inside in
    found_here a r [] (omega (arith, one.above)) (omega (arith, one.below))
inside_some (r ∷ (s ∷ rs)) a n h inside =
    let apart = apart_more r s rs h in
    let m = memory_of (s ∷ rs) in
    let here : Inside (in_front r m) a n =
    subst (λ (m : Memory). Inside m a n) (more_regions_are r s rs) inside in
    let gaps = subst (λ (gs : List Gap). MissesAll gs a n) (in_front_gaps r m) here.clear in
    let above : r.base ≤ a = omega (arith, here.above, in_front_base r m) in
    elim (cases_lt (end_of r) a) [
      | inl over ↦
          let behind : m.base ≤ a =
          elim (misses-first _ m.gaps a n gaps)
          [ inl before ↦ absurd (omega (arith, before, over)) | inr behind ↦ behind ] in
          let rest = later_inside r m a n (omega (arith, apart.0, first_base s rs)) behind here in
          found_later a r (s ∷ rs) over (inside_some (s ∷ rs) a n apart.1 rest)
      | inr within ↦ found_here a r (s ∷ rs) above within
    ]

-- the place that a search finds is one of a region that holds the address, or whose end it is
pub found_touches : (rs : List Region) (a i : ℕ) (d : Region) → position (touches a) rs ≡ Some i
    → (i < length rs) × ((get_or rs i d).base ≤ a) × (a ≤ end_of (get_or rs i d))
found_touches rs a i d found =
    let at = position-Some (touches a) rs i d found in
    let test : touches a (get_or rs i d) ≡ true = at.1 in
    (at.0, grind (arith, nat_tests), grind (arith, nat_tests))

-- a range that lies inside is found
pub inside_found : (rs : List Region) (a n : ℕ) (d : Region) → AreApart rs → Inside (memory_of rs) a n
    → (i : ℕ) × (position (touches a) rs ≡ Some i) × (i < length rs) × IsIn (get_or rs i d) a n
inside_found rs a n d h inside =
    let i = position_or_len (touches a) rs in
    let found : position (touches a) rs ≡ Some i = grind (arith, nat_tests, inside_some rs a n h inside) in
    let at = found_touches rs a i d found in
    (i, found, at.0, inside_region rs i d a n h at.0 at.1 at.2 inside)

-- what a search that must find answers
pub found_inside : (rs : List Region) (a n : ℕ) (d : Region) (o : Option ℕ) (i : ℕ) → AreApart rs
    → Inside (memory_of rs) a n
    → o ≡ position (touches a) rs → i ≡ unwrap_or o 0 → (i < length rs) × IsIn (get_or rs i d) a n
found_inside rs a n d o i h inside searched is =
    let f = inside_found rs a n d h inside in
    let same : i ≡ f.0 = is ∙ ap (λ (p : Option ℕ). unwrap_or p 0) (searched ∙ f.1) in
    subst (λ (k : ℕ). (k < length rs) × IsIn (get_or rs k d) a n) (sym same) (f.2, f.3)

-- of one region it is that one
pub only_inside : (rs : List Region) (a n : ℕ) (d : Region) → AreApart rs → Inside (memory_of rs) a n
    → length rs ≡ 1 → IsIn (get_or rs 0 d) a n
only_inside rs a n d h inside one =
    let f = inside_found rs a n d h inside in
    let first : f.0 ≡ 0 = omega (arith, f.2, one) in
    subst (λ (i : ℕ). IsIn (get_or rs i d) a n) first f.3

-- the test of a range, once its region x is found
pub found_holds : (rs : List Region) (a n i room : ℕ) (x : Region) (m : Memory) → memory_of rs ≡ m
    → AreApart rs
    → position (touches a) rs ≡ Some i → x ≡ get_or rs i x → a + room ≡ end_of x
    → IsTrue (nat_le n room) ↔ Inside m a n
found_holds rs a n i room x m same h found is rest =
    let at = found_touches rs a i x found in
    let above : x.base ≤ a = rw is at.1 in (
      λ test. subst (λ (m : Memory). Inside m a n) same (region_inside rs i x a n h at.0
          (subst (λ (r : Region). IsIn r a n) is
          (record { above = above; below = grind (arith, nat_tests) }))),
      λ inside.
          let lies = inside_region rs i x a n h at.0 at.1 at.2
          (subst (λ (m : Memory). Inside m a n) (sym same) inside) in
          let here : IsIn x a n = subst (λ (r : Region). IsIn r a n) (sym is) lies in
          grind (arith, nat_tests, here.below),
    )

-- a region was found: the address lies in it, or is its end
pub found_region : (rs : List Region) (a i : ℕ) (x : Region) → position (touches a) rs ≡ Some i
    → x ≡ get_or rs i x → (i < length rs) × (touches a x ≡ true)
found_region rs a i x found is =
    let at = position-Some (touches a) rs i x found in
    (at.0, ap (touches a) is ∙ at.1)

-- none was found
pub found_none : (rs : List Region) (a n : ℕ) (m : Memory) → memory_of rs ≡ m → AreApart rs
    → position (touches a) rs ≡ None → ¬ Inside m a n
found_none rs a n m same h none inside =
    let f = inside_found rs a n (record { base = 0; bytes = [] }) h
    (subst (λ (m : Memory). Inside m a n) (sym same) inside) in
    cc

-- the test of a range in a memory of one region x
pub one_tells : (rs : List Region) (a n : ℕ) (x : Region) (t : Bool) (m : Memory) → memory_of rs ≡ m → AreApart rs
    → length rs ≡ 1 → x ≡ get_or rs 0 x → IsTrue t ↔ IsIn x a n → IsTrue t ↔ Inside m a n
one_tells rs a n x t m same h one is tells = (
  λ yes. subst (λ (m : Memory). Inside m a n) same (region_inside rs 0 x a n h (omega (arith, one))
      (subst (λ (r : Region). IsIn r a n) is (tells.0 yes))),
  λ inside. tells.1 (subst (λ (r : Region). IsIn r a n) (sym is)
      (only_inside rs a n x h (subst (λ (m : Memory). Inside m a n) (sym same) inside) one)),
)

-- a test that tells whether a range lies inside answers as is_inside does
pub same_test : {x : Bool} {m : Memory} {a n : ℕ} → (IsTrue x ↔ Inside m a n) → x ≡ is_inside m a n
same_test {x = x} {m = m} {a = a} {n = n} tells =
    same_from_decides x (is_inside m a n) tells (is_inside-tells m a n)

-- the bytes of a range in the region x
pub part_in : (rs : List Region) (i a n : ℕ) (x : Region) (m : Memory) → memory_of rs ≡ m → AreApart rs
    → i < length rs → IsIn (get_or rs i x) a n
    → x ≡ get_or rs i x → take n (drop (a - x.base) x.bytes) ≡ part_of m a n
part_in rs i a n x m same h within isin is =
    ap (λ (r : Region). take n (drop (a - r.base) r.bytes)) is ∙ sym (part_of_region rs i x a n h within isin)
    ∙ ap (λ (m : Memory). part_of m a n) same

-- a write to the region x
pub put_in : (rs : List Region) (i a n : ℕ) (x : Region) (m : Memory) (bs : List ℕ) → memory_of rs ≡ m
    → AreApart rs → i < length rs
    → IsIn (get_or rs i x) a n → x ≡ get_or rs i x → memory_of (set rs i (with_put x a bs)) ≡ stored m a bs
put_in rs i a n x m bs same h within isin is =
    ap (λ (r : Region). memory_of (set rs i (with_put r a bs))) is
    ∙ put_region rs i x a bs h within isin.above (omega (arith, isin.below))
    ∙ ap (λ (m : Memory). stored m a bs) same

-- and the regions then
pub apart-put_in : (rs : List Region) (i a : ℕ) (x : Region) (bs : List ℕ) → AreApart rs → i < length rs
    → x ≡ get_or rs i x
    → AreApart (set rs i (with_put x a bs))
apart-put_in rs i a x bs h within is =
    rw is (apart-with_bytes rs i x (put_at (get_or rs i x).bytes (a - (get_or rs i x).base) bs) h within
    (length-put_at (get_or rs i x).bytes (a - (get_or rs i x).base) bs))

pub regions-put_in : (rs : List Region) (i a n : ℕ) (x : Region) (bs : List ℕ) → AreRegions rs → i < length rs
    → IsIn (get_or rs i x) a n
    → x ≡ get_or rs i x → AreRegions (set rs i (with_put x a bs))
regions-put_in rs i a n x bs h within isin is =
    let same = put_in rs i a n x (memory_of rs) bs refl h.apart within isin is in
    let size = length-put_at (memory_of rs).bytes (a - (memory_of rs).base) (up_to_gap (memory_of rs).gaps a bs) in
    record {
      apart = apart-put_in rs i a x bs h.apart within is;
      spans =
          omega (arith, h.spans, ap (λ (m : Memory). length m.bytes) same, size);
    }

-- the memory begins where its first region does
pub begins : (rs : List Region) (x : Region) (m : Memory) → memory_of rs ≡ m → AreApart rs → x ≡ get_or rs 0 x
    → x.base ≡ m.base
begins [] x m same h is = absurd (omega (arith, some_region [] h))
begins (r ∷ rs) x m same h is = ap (λ (y : Region). y.base) is ∙ sym (first_base r rs)
    ∙ ap (λ (m : Memory). m.base) same

-- one region of zeros
pub zeroed_region : (rs : List Region) (base len : ℕ)
    → rs ≡ record { base = base; bytes = replicate len 0 } ∷ [] → memory_of rs ≡ zeroed base len
zeroed_region rs base len is = ap memory_of is
    ∙ one_region_is (record { base = base; bytes = replicate len 0 })

pub zeroed_regions : (rs : List Region) (base len : ℕ)
    → rs ≡ record { base = base; bytes = replicate len 0 } ∷ [] → base + len ≤ 2 ^ 64 → len < 2 ^ 64
    → AreRegions rs
zeroed_regions rs base len is fits spans =
    let size = length-replicate {A = ℕ} len 0 in
    record {
      apart = subst AreApart (sym is)
          (one_apart (record { base = base; bytes = replicate len 0 }) (omega (arith, fits, size)));
      spans = omega (arith, spans, size, ap (λ (m : Memory). length m.bytes) (zeroed_region rs base len is));
    }

-- the place that was found, in the same list under another name
pub place_in : (xs rs : List Region) (i a n : ℕ) (x : Region) → xs ≡ rs → i < length xs
    → IsIn (get_or xs i x) a n → (i < length rs) × IsIn (get_or rs i x) a n
place_in xs rs i a n x same within isin =
    subst (λ (ys : List Region). (i < length ys) × IsIn (get_or ys i x) a n) same (within, isin)

-- the address lies in that region, or is its end
pub touches_found : (rs : List Region) (a i : ℕ) (o : Option ℕ) (x : Region) → o ≡ position (touches a) rs
    → o ≡ Some i → x ≡ get_or rs i x
    → touches a x ≡ true
touches_found rs a i o x found some is = (found_region rs a i x (sym found ∙ some) is).1

-- the test of a range, where no region is found
pub none_inside : (rs : List Region) (a n : ℕ) (o : Option ℕ) → AreApart rs
    → o ≡ position (touches a) rs → o ≡ None
    → IsTrue false ↔ Inside (memory_of rs) a n
none_inside rs a n o h found none =
    (λ never. cc, λ inside. absurd (found_none rs a n (memory_of rs) refl h (sym found ∙ none) inside))

-- the last of some regions ends where the memory does
pub ends_last : (rs : List Region) (i : ℕ) (d : Region) → AreApart rs → suc i ≡ length rs
    → end_of (get_or rs i d) ≡ (memory_of rs).base + length (memory_of rs).bytes
ends_last [] i d h last = absurd (omega (arith, last))
ends_last (r ∷ []) zero d h last = sym (ap (λ (m : Memory). m.base + length m.bytes) (one_region_is r))
ends_last (r ∷ []) (suc i) d h last = absurd (omega (arith, last))
ends_last (r ∷ (s ∷ rs)) zero d h last = absurd (omega (arith, last))
ends_last (r ∷ (s ∷ rs)) (suc i) d h last =
    let apart = apart_more r s rs h in
    ends_last (s ∷ rs) i d apart.1 (omega (arith, last))
    ∙ sym (length-in_front r (memory_of (s ∷ rs)) (omega (arith, apart.0, first_base s rs)))
    ∙ ap (λ (b : ℕ). b + length (in_front r (memory_of (s ∷ rs))).bytes)
    (sym (in_front_base r (memory_of (s ∷ rs))))
    ∙ sym (ap (λ (m : Memory). m.base + length m.bytes) (more_regions_are r s rs))

-- no region begins below the memory
pub region_above : (rs : List Region) (i : ℕ) (d : Region) → AreApart rs → i < length rs
    → (memory_of rs).base ≤ (get_or rs i d).base
region_above [] i d h within = absurd (omega (arith, within))
region_above (r ∷ rs) i d h within = omega (arith, first_base r rs, begins_above r rs i d h within)

-- so the last region tells how many addresses the memory spans
pub last_region : {rs : List Region} {x : Region} → AreRegions rs → x ≡ get_or rs (length rs - 1) x
    → (end_of x ≡ (memory_of rs).base + length (memory_of rs).bytes) × ((memory_of rs).base ≤ x.base)
    × (length (memory_of rs).bytes < 2 ^ 64)
last_region {rs = rs} {x = x} h is =
    let last : suc (length rs - 1) ≡ length rs = omega (arith, some_region rs h.apart) in (
      ap end_of is ∙ ends_last rs (length rs - 1) x h.apart last,
      omega (
        arith,
        ap (λ (y : Region). y.base) is,
        region_above rs (length rs - 1) x h.apart (omega (arith, last)),
      ),
      h.spans,
    )

-- how many bytes there are from a to the end of the region x: a range from there on lies inside where it has
-- no more
pub found_room : (rs : List Region) (a i room : ℕ) (x : Region) (m : Memory) → memory_of rs ≡ m → AreApart rs
    → position (touches a) rs ≡ Some i → x ≡ get_or rs i x → a + room ≡ end_of x
    → (n : ℕ) → (n ≤ room) ↔ Inside m a n
found_room rs a i room x m same h found is rest n =
    let test = found_holds rs a n i room x m same h found is rest in
    (λ within. test.0 (grind (arith, nat_tests)), λ inside. grind (arith, nat_tests, test.1 inside))

-- what a search answered: there is so much room in the region x that it found
pub room_found : (rs : List Region) (a i room : ℕ) (o : Option ℕ) (x : Region) → AreApart rs
    → o ≡ position (touches a) rs → o ≡ Some i
    → x ≡ get_or rs i x → a + room ≡ end_of x → (n : ℕ) → (n ≤ room) ↔ Inside (memory_of rs) a n
room_found rs a i room o x h found some is rest =
    found_room rs a i room x (memory_of rs) refl h (sym found ∙ some) is rest

-- the bytes from an address on that has so much room are the rest of its region
pub rest_is : (m : Memory) (a room : ℕ) (bytes : List ℕ) → ((n : ℕ) → (n ≤ room) ↔ Inside m a n)
    → length bytes ≡ room
    → bytes ≡ part_of m a room → IsRest m a bytes
rest_is m a room bytes fits size are = record {
  inside = (fits (length bytes)).0 (omega (arith, size));
  longest = λ n inside. omega (arith, size, (fits n).1 inside);
  are = are ∙ ap (part_of m a) (sym size);
}
