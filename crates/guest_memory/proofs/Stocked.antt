-- A memory by its list of regions: where a range lies, what is read there, and what a write makes of it.
use Rattle.std.proofs.Common.{◌≡◌, ◌↔◌, ◌==◌, ◌<◌, ◌≤◌, ◌+◌, ◌-◌, ◌^◌, ℕ, Bool, true, List, [], ◌∷◌, length, take, drop, get_or, set, refl, sym, ◌∙◌, ap, subst, arith}
use Rattle.std.specs.Prelude.{IsTrue}
use Rattle.std.proofs.lemmas.Bool.Decides.{nat_tests}
use Rattle.guest_memory.specs.Memory.{Memory, Inside, part_of, stored, with_marks, with_pages}
use Rattle.guest_memory.specs.Pages.{bits_of, marked}
use Rattle.guest_memory.specs.Regions.{Region, AreRegions, IsIn, in_front, memory_of}
use Rattle.guest_memory.proofs.Marking.{marked-nil}
use Rattle.guest_memory.proofs.InRegions.{one_tells, only_inside, part_in, place_in, put_in, region_fits, regions-put_in, with_put}

-- the bits of pages have no part in where a range lies
pub inside_with : {m : Memory} {a n : ℕ} (bits : List Bool) → Inside m a n → Inside (with_pages bits m) a n
inside_with bits h = record { above = h.above; below = h.below; clear = h.clear }

pub inside_without : {m : Memory} {a n : ℕ} (bits : List Bool) → Inside (with_pages bits m) a n → Inside m a n
inside_without bits h = record { above = h.above; below = h.below; clear = h.clear }

pub tells_with : {P : Type 0} {m with_bits : Memory} {a n : ℕ} {bits : List Bool} → with_pages bits m ≡ with_bits
    → P ↔ Inside m a n
    → P ↔ Inside with_bits a n
tells_with {P} {m} {with_bits} {a} {n} {bits} is h = (
  λ p. subst (λ (k : Memory). Inside k a n) is (inside_with bits (h.0 p)),
  λ inside. h.1 (inside_without bits (subst (λ (k : Memory). Inside k a n) (sym is) inside)),
)

-- the memory m has the regions rs
pub record HasRegions (rs : List Region) (m : Memory) : Type 0 where
  pub regions : AreRegions rs
  pub bits : List Bool
  pub view : with_pages bits (memory_of rs) ≡ m

pub has_regions : {rs : List Region} {bits : List Bool} {m : Memory} → AreRegions rs
    → with_pages bits (memory_of rs) ≡ m → HasRegions rs m
has_regions {bits = bits} regions view = record { regions = regions; bits = bits; view = view }

-- a list that is searched has its regions
pub viewed : {rs xs : List Region} {bits : List Bool} {m : Memory} → with_pages bits (memory_of rs) ≡ m → xs ≡ rs
    → with_pages bits (memory_of xs) ≡ m
viewed {bits = bits} view same = ap (λ (rs : List Region). with_pages bits (memory_of rs)) same ∙ view

-- the n bytes from address a on lie in the region x, which is the i-th of them
pub record IsFound (rs : List Region) (m : Memory) (i a n : ℕ) (x : Region) : Type 0 where
  pub has : HasRegions rs m
  pub place : i < length rs
  pub lies : IsIn (get_or rs i x) a n
  pub is : x ≡ get_or rs i x

-- of one region it is that one
pub only_found : {rs : List Region} {m : Memory} {a n : ℕ} {x : Region}
    → HasRegions rs m → length rs ≡ 1 → Inside m a n → x ≡ get_or rs 0 x → IsFound rs m 0 a n x
only_found {rs = rs} {a = a} {n = n} {x = x} has one inside is = record {
  has = has;
  place = omega (arith, one);
  lies = only_inside rs a n x has.regions.apart
      (inside_without has.bits (subst (λ (m : Memory). Inside m a n) (sym has.view) inside)) one;
  is = is;
}

-- one that was searched for, in the same list under another name
pub search_found : {xs rs : List Region} {m : Memory} {i a n : ℕ}
    {x : Region} → HasRegions rs m
    → xs ≡ rs → i < length xs → IsIn (get_or xs i x) a n → x ≡ get_or rs i x → IsFound rs m i a n x
search_found {xs = xs} {rs = rs} {i = i} {a = a} {n = n} {x = x} has same within lies is =
    let at = place_in xs rs i a n x same within lies in
    record { has = has; place = at.0; lies = at.1; is = is }

-- the test of a range in the only region
pub only_tells : {rs : List Region} {m : Memory} {a n : ℕ} {x : Region} {t : Bool}
    → HasRegions rs m → length rs ≡ 1 → x ≡ get_or rs 0 x → IsTrue t ↔ IsIn x a n → IsTrue t ↔ Inside m a n
only_tells {rs = rs} {a = a} {n = n} {x = x} {t = t} has one is tells =
    tells_with has.view (one_tells rs a n x t (memory_of rs) refl has.regions.apart one is tells)

-- the range lies in that region, and ends by 2^64
pub found_lies : {rs : List Region} {m : Memory} {i a n : ℕ} {x : Region}
    → IsFound rs m i a n x
    → IsIn x a n
found_lies {a = a} {n = n} at = subst (λ (r : Region). IsIn r a n) (sym at.is) at.lies

pub found_fits : {rs : List Region} {m : Memory} {i a n : ℕ} {x : Region}
    → IsFound rs m i a n x
    → a + n ≤ 2 ^ 64
found_fits {rs = rs} {i = i} {x = x} at =
    omega (arith, region_fits rs i x at.has.regions.apart at.place, at.lies.below)

-- its bytes are the region's
pub found_part : {rs : List Region} {m : Memory} {i a n : ℕ} {x : Region}
    → IsFound rs m i a n x
    → take n (drop (a - x.base) x.bytes) ≡ part_of m a n
found_part {rs = rs} {m = m} {i = i} {a = a} {n = n} {x = x} at =
    part_in rs i a n x (memory_of rs) refl at.has.regions.apart at.place at.lies at.is
    ∙ ap (λ (m : Memory). part_of m a n) at.has.view

-- a write there is one to the region, and leaves regions
pub found_put : {rs : List Region} {m : Memory} {i a n : ℕ}
    {x : Region} (bits : List Bool) (k : Memory) (bs : List ℕ) → with_pages bits k ≡ m → IsFound rs m i a n x
    → with_pages bits (memory_of (set rs i (with_put x a bs))) ≡ stored m a bs
found_put {rs = rs} {m = m} {i = i} {a = a} {n = n} {x = x} bits k bs view at =
    let same : bits ≡ at.has.bits =
    ap (λ (y : Memory). y.pages) view ∙ sym (ap (λ (y : Memory). y.pages) at.has.view) in
    ap (λ (kept : List Bool). with_pages kept (memory_of (set rs i (with_put x a bs)))) same
    ∙ ap (with_pages at.has.bits) (put_in rs i a n x (memory_of rs) bs refl at.has.regions.apart at.place at.lies at.is)
    ∙ ap (λ (y : Memory). stored y a bs) at.has.view

pub found_regions : {rs : List Region} {m : Memory} {i a n : ℕ}
    {x : Region} (bs : List ℕ)
    → IsFound rs m i a n x → AreRegions (set rs i (with_put x a bs))
found_regions {rs = rs} {i = i} {a = a} {n = n} {x = x} bs at =
    regions-put_in rs i a n x bs at.has.regions at.place at.lies at.is

-- marks have no part in where a range lies, nor in its bytes
pub inside_marked : {m marked_one : Memory} {a n : ℕ} → marked_one ≡ with_marks m a n → Inside m a n
    → Inside marked_one a n
inside_marked {m} {marked_one} {a} {n} is h =
    subst (λ (k : Memory). Inside k a n) (sym is) (inside_with (with_marks m a n).pages h)

pub same_part : (m : Memory) (a n : ℕ) {marked_one : Memory} → marked_one ≡ with_marks m a n
    → part_of marked_one a n ≡ part_of m a n
same_part m a n is = ap (λ (k : Memory). part_of k a n) is

-- and a part that was lent has as many bytes as are marked
pub marked_part : (m : Memory) (a : ℕ) {marked_one : Memory} {n len : ℕ} → marked_one ≡ with_marks m a n → len ≡ n
    → (bs : List ℕ)
    → stored marked_one a bs ≡ stored (with_marks m a len) a bs
marked_part m a {marked_one} {n} {len} is same bs =
    ap (λ (k : Memory). stored k a bs) is ∙ ap (λ (k : ℕ). stored (with_marks m a k) a bs) (sym same)

no_bits : (bytes : List ℕ) → bytes ≡ [] → bits_of bytes ≡ []
unfolding bits_of
no_bits bytes none = ap bits_of none

-- of a memory of which no bits are kept none are marked
pub none_marked : (bytes : List ℕ) (a n : ℕ) (k : Memory) {count : ℕ} {test : Bool} {m : Memory}
    → count ≡ length bytes → test ≡ (count == 0) → test ≡ true → with_pages (bits_of bytes) k ≡ m → m ≡ with_marks m a n
none_marked [] a n k {m = m} size is empty view =
    let none : m.pages ≡ [] = sym (ap (λ (x : Memory). x.pages) view) ∙ no_bits [] refl in
    sym (ap (λ (bits : List Bool). record m { pages = marked 0 (a - m.base) n bits }) none
    ∙ ap (λ (bits : List Bool). record m { pages = bits }) (marked-nil 0 (a - m.base) n)
    ∙ ap (λ (bits : List Bool). record m { pages = bits }) (sym none))
none_marked (byte ∷ bytes) a n k size is empty view = absurd (grind (arith, nat_tests, size, is, empty))

-- where no bits are kept, the memory is that of its regions
unmarked_front : (r : Region) (m : Memory) → with_pages [] m ≡ m → with_pages [] (in_front r m) ≡ in_front r m
unfolding in_front
unmarked_front r m is = ap (in_front r) is

unmarked : (rs : List Region) → with_pages [] (memory_of rs) ≡ memory_of rs
unfolding memory_of
unmarked [] = refl
unmarked (r ∷ []) = refl
unmarked (r ∷ (s ∷ rs)) = unmarked_front r (memory_of (s ∷ rs)) (unmarked (s ∷ rs))

pub none_kept : (bytes : List ℕ) (rs : List Region) {m : Memory} → bytes ≡ [] → memory_of rs ≡ m
    → with_pages (bits_of bytes) (memory_of rs) ≡ m
none_kept bytes rs {m} none is =
    ap (λ (bits : List Bool). with_pages bits (memory_of rs)) (no_bits bytes none) ∙ unmarked rs ∙ is
