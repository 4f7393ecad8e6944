-- What callers need of ranges of a memory: what a write leaves, and what it can't reach.
use Rattle.std.proofs.Common.{◌≡◌, ◌↔◌, ◌⊎◌, inl, inr, ℕ, ◌+◌, ◌-◌, ◌≤◌, List, [], ◌++◌, length, take, drop, refl, sym, ◌∙◌, ap, subst, arith, Bool, true, false, length-append, length-take, length-drop}
use Rattle.std.specs.Prelude.{IsTrue, nat_le, ◌&&◌}
use Rattle.std.proofs.lemmas.Bool.Decides.{nat_tests}
use Rattle.std.proofs.lemmas.List.{places, same_lists}
use Rattle.byteorder.specs.Endian.{little_number}
use Rattle.byteorder.specs.Numbers.{little_from-take}
use Rattle.guest_memory.specs.Memory.{Gap, Memory, Inside, MissesAll, is_inside, misses_all, SameRange, num, part_of, put_at, up_to_gap, put, stored, with_marks}
use Rattle.guest_memory.specs.Pages.{marked}
use Rattle.guest_memory.proofs.Marking.{marked-marked, marked-none}
use Rattle.guest_memory.proofs.Gaps.{misses-none, misses_part, misses_all-true, true-misses_all, up_to_gap-all, up_to_gap-nil}

-- a list keeps its length, whatever is written where
pub length-put_at : (xs : List ℕ) (i : ℕ) (bs : List ℕ) → length (put_at xs i bs) ≡ length xs
length-put_at xs i bs = simp (length-take, length-append, length-drop) (omega arith)

-- a range that lies inside is written whole
pub written : (m : Memory) (a : ℕ) (bs : List ℕ) → Inside m a (length bs) → up_to_gap m.gaps a bs ≡ bs
written m a bs inside = up_to_gap-all m.gaps a bs inside.clear

-- so the memory then has its bytes from there on
pub stored_bytes : (m : Memory) (a : ℕ) (bs : List ℕ) → Inside m a (length bs)
    → stored m a bs ≡ record m { bytes = put_at m.bytes (a - m.base) bs }
stored_bytes m a bs inside =
    ap (λ (ws : List ℕ). record m { bytes = put_at m.bytes (a - m.base) ws }) (written m a bs inside)

pub put_bytes : (m : Memory) (a : ℕ) (bs : List ℕ) → Inside m a (length bs)
    → put m a bs ≡ record (with_marks m a (length bs)) { bytes = put_at m.bytes (a - m.base) bs }
put_bytes m a bs inside =
    ap (λ (ws : List ℕ). record (with_marks m a (length bs)) { bytes = put_at m.bytes (a - m.base) ws })
    (written m a bs inside)

-- what is put into a part that was lent is a write
pub lent_put : (m : Memory) (a n : ℕ) (bs : List ℕ) → n ≡ length bs → stored (with_marks m a n) a bs ≡ put m a bs
lent_put m a n bs same = ap (λ (k : ℕ). stored (with_marks m a k) a bs) same

-- a memory without gaps lies in itself
pub whole_inside : (m : Memory) (n : ℕ) → m.gaps ≡ [] → n ≡ length m.bytes → Inside m m.base n
whole_inside m n one same = record {
  above = omega arith;
  below = omega (arith, same);
  clear = subst (λ (gs : List Gap). MissesAll gs m.base n) (sym one) (misses-none m.base n);
}

-- a part of a range lies where the range does
pub inside_part : {m : Memory} {a n b k : ℕ} → Inside m a n → a ≤ b → b + k ≤ a + n → Inside m b k
inside_part {m} {a} {n} {b} {k} h above below =
    record {
      above = omega (arith, h.above);
      below = omega (arith, h.below);
      clear = misses_part m.gaps a n b k above below h.clear;
    }

-- a write leaves the range
pub put_range : (m : Memory) (a : ℕ) (bs : List ℕ) → SameRange m (put m a bs)
put_range m a bs = record {
  base = refl;
  size = length-put_at m.bytes (a - m.base) (up_to_gap m.gaps a bs);
  gaps = refl;
}

pub stored_range : (m : Memory) (a : ℕ) (bs : List ℕ) → SameRange m (stored m a bs)
stored_range m a bs = record {
  base = refl;
  size = length-put_at m.bytes (a - m.base) (up_to_gap m.gaps a bs);
  gaps = refl;
}

-- a write of nothing changes nothing
pub put-none : (m : Memory) (a : ℕ) → put m a [] ≡ m
put-none m a =
    ap (λ (ws : List ℕ). record (with_marks m a 0) { bytes = put_at m.bytes (a - m.base) ws })
    (up_to_gap-nil m.gaps a)
    ∙ ap (λ (xs : List ℕ). record (with_marks m a 0) { bytes = xs })
    (same_lists _ _ (length-put_at m.bytes (a - m.base) []) (λ k d h. grind (arith, places)))
    ∙ ap (λ (bits : List Bool). record m { pages = bits }) (marked-none 0 (a - m.base) m.pages)

-- two writes in a list, the second right behind the first, are one
pub put_at-put_at : (xs : List ℕ) (i : ℕ) (bs cs : List ℕ) → i + length bs + length cs ≤ length xs
    → put_at (put_at xs i bs) (i + length bs) cs ≡ put_at xs i (bs ++ cs)
put_at-put_at xs i bs cs fits =
    same_lists _ _ (simp (length-take, length-append, length-drop) (omega arith))
    (λ k d h. grind (arith, places))

-- two writes, the second right behind the first, are one
stored-stored : (m : Memory) (a : ℕ) (xs ys : List ℕ) → Inside m a (length xs + length ys)
    → stored (stored m a xs) (a + length xs) ys ≡ stored m a (xs ++ ys)
stored-stored m a xs ys inside =
    let place : a + length xs - m.base ≡ (a - m.base) + length xs = omega (arith, inside.above) in
    let first : Inside m a (length xs) = inside_part inside (omega arith) (omega arith) in
    let second : Inside m (a + length xs) (length ys) = inside_part inside (omega arith) (omega arith) in
    let both : Inside m a (length (xs ++ ys)) =
    inside_part inside (omega arith) (omega (arith, length-append xs ys)) in
    ap (λ (x : Memory). stored x (a + length xs) ys) (stored_bytes m a xs first)
    ∙ ap (λ (ws : List ℕ). record m {
      bytes = put_at (put_at m.bytes (a - m.base) xs) (a + length xs - m.base)
          ws;
    }) (written m (a + length xs) ys second)
    ∙ ap (λ (i : ℕ). record m { bytes = put_at (put_at m.bytes (a - m.base) xs) i ys }) place
    ∙ ap (λ (bs : List ℕ). record m { bytes = bs })
    (put_at-put_at m.bytes (a - m.base) xs ys (omega (arith, inside.above, inside.below)))
    ∙ sym (stored_bytes m a (xs ++ ys) both)

pub put-put : (m : Memory) (a : ℕ) (xs ys : List ℕ) → Inside m a (length xs + length ys)
    → put (put m a xs) (a + length xs) ys ≡ put m a (xs ++ ys)
put-put m a xs ys inside =
    let i = a - m.base in
    let place : a + length xs - m.base ≡ i + length xs = omega (arith, inside.above) in
    let first : List Bool = marked 0 i (length xs) m.pages in
    ap (λ (x : Memory). record x { pages = marked 0 (a + length xs - m.base) (length ys) first })
    (stored-stored m a xs ys inside)
    ∙ ap (λ (bits : List Bool). record (stored m a (xs ++ ys)) { pages = bits })
    (ap (λ (k : ℕ). marked 0 k (length ys) first) place
    ∙ marked-marked 0 i (length xs) (length ys) m.pages
    ∙ ap (λ (n : ℕ). marked 0 i n m.pages) (sym (length-append xs ys)))

-- the first bytes of a list, and those that follow
pub take-plus : (n k : ℕ) (xs : List ℕ) → take (n + k) xs ≡ take n xs ++ take k (drop n xs)
take-plus n k xs = same_lists _ _ (simp (length-take, length-append, length-drop) (omega arith))
    (λ i d h. grind (arith, places))

-- a part that lies inside has its length
pub length-part_of : (m : Memory) (a n : ℕ) → Inside m a n → length (part_of m a n) ≡ n
length-part_of m a n inside = simp (length-take, length-drop) (omega arith)

-- what passes the test lies in the memory
is_inside-true : (m : Memory) (a n : ℕ) → is_inside m a n ≡ true → Inside m a n
is_inside-true m a n test =
    let within : nat_le m.base a && nat_le (a + n) (m.base + length m.bytes) ≡ true =
    grind (arith, nat_tests) in
    let clear : misses_all m.gaps a n ≡ true = grind (arith, nat_tests) in
    record {
      above = grind (arith, nat_tests);
      below = grind (arith, nat_tests);
      clear = true-misses_all m.gaps a n clear;
    }

-- the test of a range tells whether it lies in the memory
pub is_inside-tells : (m : Memory) (a n : ℕ) → IsTrue (is_inside m a n) ↔ Inside m a n
is_inside-tells m a n = (
  is_inside-true m a n,
  λ inside. grind (arith, nat_tests, misses_all-true m.gaps a n inside.clear),
)

-- a range lies in a memory or doesn't
pub inside_cases : (m : Memory) (a n : ℕ) → Inside m a n ⊎ (¬ Inside m a n)
inside_cases m a n = by (is_inside m a n) refl
  where
    by : (t : Bool) → is_inside m a n ≡ t → Inside m a n ⊎ (¬ Inside m a n)
    by true e = inl ((is_inside-tells m a n).0 e)
    by false e = inr (λ h. cc ((is_inside-tells m a n).1 h))

-- a range stays inside a memory of the same addresses
pub inside_same : (old new : Memory) (a n : ℕ) → SameRange old new → Inside old a n → Inside new a n
inside_same old new a n s h =
    record {
      above = omega arith;
      below = omega arith;
      clear = subst (λ (gs : List Gap). MissesAll gs a n) (sym s.gaps) h.clear;
    }

-- the addresses stay where they stay in two steps
pub same_trans : (a b c : Memory) → SameRange a b → SameRange b c → SameRange a c
same_trans a b c p q = record { base = q.base ∙ p.base; size = q.size ∙ p.size; gaps = q.gaps ∙ p.gaps }

-- a number at a place of a part that was lent is the number at its address
pub num_in_part : (m : Memory) (a n j k rest v : ℕ) (bytes : List ℕ) → bytes ≡ part_of m a n → Inside m a n
    → j + k ≤ n → k ≤ rest
    → v ≡ little_number k (take rest (drop j bytes)) → v ≡ num m (a + j) k
num_in_part m a n j k rest v bytes lent inside within room read =
    let xs = take rest (drop j (part_of m a n)) in
    let same : take k xs ≡ part_of m (a + j) k =
    same_lists _ _ (simp (length-take, length-drop) (omega (arith, inside.above)))
    (λ i d h. grind (arith, places, inside.above)) in
    read ∙ ap (λ (bs : List ℕ). little_number k (take rest (drop j bs))) lent
    ∙ sym (little_from-take 0 k k xs (omega arith)) ∙ ap (little_number k) same
