-- Places of the two lists: the segment that a place lies in, and what stands there from the place on.
use Rattle.std.proofs.Common.{◌≡◌, ℕ, ◌+◌, ◌-◌, ◌<◌, ◌≤◌, Bool, true, false, List, [], ◌∷◌, ◌++◌, length, sum_by, get_or, take, drop, refl, sym, ap, ◌∙◌, arith, inl, inr}
use Rattle.std.specs.Prelude.{All, if◌then◌else◌}
use Rattle.std.specs.List.{flat_map, range_with_len}
use mathlib.Core.Bool.{beq}
use Rattle.std.proofs.lemmas.Bool.{cases_lt, lt-ltb, le-ltb}
use Rattle.std.proofs.lemmas.List.{take_all, take_rest, take_more, take-append-drop, drop_more, drop_at, drop-drop, drop-take, drop-append-le, take-append-le, take-take, length-drop, length-take, ext_get_or, get_or-drop, get_or-take}
use Rattle.std.proofs.lemmas.List.Elements.{All-head, All-tail}
use Rattle.std.proofs.lemmas.List.FromFn.{length-range_with_len, get_or-range_with_len}
use Rattle.std.proofs.lemmas.List.Sums.{sum_by-cons}
use Rattle.guest_memory.specs.Memory.{Memory, Inside, part_of}
use Rattle.chain.specs.declared.segment.Segment.{Segment}
use Rattle.chain.specs.declared.segment.Buffer.{Buffer}
use Rattle.chain.specs.declared.buffers.Start.{Start}
use Rattle.chain.specs.Held.{start_at}
use Rattle.chain.specs.Bytes.{segments_of, addresses, len_of, rest_at}
use Rattle.chain.proofs.Directions.{len_of-append, segments_of-append}
use Rattle.guest_memory.proofs.Ranges.{inside_part, length-part_of}

abbrev pub InMemory : Memory → Segment → Type 0
InMemory m s = Inside m s.addr s.len

abbrev pub size : List Segment → ℕ
size ss = sum_by (λ (s : Segment). s.len) ss

-- a segment that the place lies in, and one that it lies behind
rest_here : (s : Segment) (ss : List Segment) (k : ℕ) → k < s.len
    → rest_at (s ∷ ss) k ≡ record { addr = s.addr + k; len = s.len - k }
rest_here s ss k h = rw (lt-ltb k s.len h) refl

rest_behind : (s : Segment) (ss : List Segment) (k : ℕ) → s.len ≤ k
    → rest_at (s ∷ ss) k ≡ rest_at ss (k - s.len)
rest_behind s ss k h = rw (le-ltb k s.len h) refl

behind_size : (s : Segment) (ss : List Segment) (k : ℕ) → s.len ≤ k → k < size (s ∷ ss) → k - s.len < size ss
behind_size s ss k h l = omega (arith, sum_by-cons (λ (s : Segment). s.len) s ss)

-- the list of pieces behind the first
drop_behind : {X : Type 0} (p rest : List X) (n k : ℕ) → length p ≡ n → n ≤ k
    → drop k (p ++ rest) ≡ drop (k - n) rest
drop_behind p rest n k e h =
    let s : k ≡ n + (k - n) = omega arith in
    ap (λ j. drop j (p ++ rest)) s ∙ sym (drop-drop (k - n) n (p ++ rest))
    ∙ ap (drop (k - n)) (drop_at p rest n e)

-- a part of the first piece
take_within : {X : Type 0} (p rest : List X) (n k : ℕ) → k + n ≤ length p
    → take n (drop k (p ++ rest)) ≡ take n (drop k p)
take_within p rest n k h =
    ap (take n) (drop-append-le k p rest (omega arith))
    ∙ take-append-le n (drop k p) rest (rw length-drop (omega arith))

part_of_part : (m : Memory) (a len k n : ℕ) → Inside m a len → k + n ≤ len
    → take n (drop k (part_of m a len)) ≡ part_of m (a + k) n
part_of_part m a len k n h l =
    let s : len ≡ k + (len - k) = omega arith in
    let t : (a - m.base) + k ≡ a + k - m.base = omega arith in
    ap (λ j. take n (drop k (take j (drop (a - m.base) m.bytes)))) s
    ∙ ap (take n) (drop-take k (len - k) (drop (a - m.base) m.bytes))
    ∙ take-take n (len - k) (drop k (drop (a - m.base) m.bytes)) (omega arith)
    ∙ ap (take n) (drop-drop k (a - m.base) m.bytes)
    ∙ ap (λ j. take n (drop j m.bytes)) t

range_of_range : (a len k n : ℕ) → k + n ≤ len
    → take n (drop k (range_with_len a len)) ≡ range_with_len (a + k) n
range_of_range a len k n l =
    ext_get_or 0 (take n (drop k (range_with_len a len))) (range_with_len (a + k) n)
    (let e = length-range_with_len a len in let f = length-range_with_len (a + k) n in
    simp (length-take, length-drop) (omega (arith, e, f)))
    (λ i h. let u : i < n = omega (arith, h, length-take n (drop k (range_with_len a len))) in
    get_or-take n (drop k (range_with_len a len)) i 0 u ∙ get_or-drop k (range_with_len a len) i 0
    ∙ get_or-range_with_len a len (k + i) 0 (omega (arith, u, l)) ∙ (omega arith)
    ∙ sym (get_or-range_with_len (a + k) n i 0 u))

-- At a place of the list some bytes are left, they lie in the memory, and they stand in the list from there
-- on.
pub rest_some : (ss : List Segment) (k : ℕ) → k < size ss → 0 < (rest_at ss k).len
rest_some [] k h = absurd (omega arith)
rest_some (s ∷ ss) k h =
    elim (cases_lt k s.len) [
      | inl near ↦ rw (rest_here s ss k near) (omega arith)
      | inr far ↦ rw (rest_behind s ss k far) (rest_some ss (k - s.len) (behind_size s ss k far h))
    ]

pub rest_inside : (m : Memory) (ss : List Segment) (k : ℕ) → All (InMemory m) ss → k < size ss
    → InMemory m (rest_at ss k)
rest_inside m [] k a h = absurd (omega arith)
rest_inside m (s ∷ ss) k a h =
    let here = All-head (InMemory m) s ss a in
    elim (cases_lt k s.len) [
      | inl near ↦ rw (rest_here s ss k near) (inside_part here (omega arith) (omega (arith, near)))
      | inr far ↦ rw (rest_behind s ss k far) (rest_inside m ss (k - s.len) (All-tail (InMemory m) s ss a)
          (behind_size s ss k far h))
    ]

pub rest_reads : (m : Memory) (ss : List Segment) (k n : ℕ) → All (InMemory m) ss → k < size ss
    → n ≤ (rest_at ss k).len
    → take n (drop k (flat_map (λ s. part_of m s.addr s.len) ss)) ≡ part_of m (rest_at ss k).addr n
rest_reads m [] k n a h l = absurd (omega arith)
rest_reads m (s ∷ ss) k n a h l =
    let here = All-head (InMemory m) s ss a in
    let p = part_of m s.addr s.len in
    let len = length-part_of m s.addr s.len here in
    let rest = flat_map (λ (s : Segment). part_of m s.addr s.len) ss in
    elim (cases_lt k s.len) [
      | inl near ↦
          let e = rest_here s ss k near in
          let fits : k + n ≤ s.len = omega (arith, near, rw e at l) in
          rw e (take_within p rest n k (omega (arith, fits, len)) ∙ part_of_part m s.addr s.len k n here fits)
      | inr far ↦
          let e = rest_behind s ss k far in
          rw e (ap (take n) (drop_behind p rest s.len k len far)
          ∙ rest_reads m ss (k - s.len) n (All-tail (InMemory m) s ss a)
          (behind_size s ss k far h) (rw e at l))
    ]

pub rest_addresses : (ss : List Segment) (k n : ℕ) → k < size ss → n ≤ (rest_at ss k).len
    → take n (drop k (flat_map addresses ss)) ≡ range_with_len (rest_at ss k).addr n
rest_addresses [] k n h l = absurd (omega arith)
rest_addresses (s ∷ ss) k n h l =
    let p = addresses s in
    let len = length-range_with_len s.addr s.len in
    let rest = flat_map addresses ss in
    elim (cases_lt k s.len) [
      | inl near ↦
          let e = rest_here s ss k near in
          let fits : k + n ≤ s.len = omega (arith, near, rw e at l) in
          rw e (take_within p rest n k (omega (arith, fits, len)) ∙ range_of_range s.addr s.len k n fits)
      | inr far ↦
          let e = rest_behind s ss k far in
          rw e (ap (take n) (drop_behind p rest s.len k len far)
          ∙ rest_addresses ss (k - s.len) n (behind_size s ss k far h) (rw e at l))
    ]

-- At the last place the list ends in the address of what is left there, which lies in the memory.
pub last_address : (ss : List Segment) (k : ℕ) → k + 1 ≡ size ss → length (flat_map addresses ss) ≡ size ss
    → drop k (flat_map addresses ss) ≡ (rest_at ss k).addr ∷ []
last_address ss k last sized =
    let there : k < size ss = omega (arith, last) in
    let one = rest_addresses ss k 1 there (rest_some ss k there) in
    let all = take_rest (flat_map addresses ss) k in
    let rest : length (flat_map addresses ss) - k ≡ 1 = omega (arith, last, sized) in
    sym all ∙ ap (λ n. take n (drop k (flat_map addresses ss))) rest ∙ one

pub last_inside : (m : Memory) (ss : List Segment) (k : ℕ) → k + 1 ≡ size ss → All (InMemory m) ss
    → Inside m (rest_at ss k).addr 1
last_inside m ss k last inside =
    let there : k < size ss = omega (arith, last) in
    inside_part (rest_inside m ss k inside there) (omega arith) (omega (arith, rest_some ss k there))

-- a buffer of the other direction has no segment here, one of this direction has the first
segments_of-miss : (w : Bool) (b : Buffer) (bs : List Buffer) → beq b.writable w ≡ false
    → segments_of w (b ∷ bs) ≡ segments_of w bs
segments_of-miss w b bs h = go w b.writable h
  where
    go : (w v : Bool) → beq v w ≡ false
        → segments_of w (record { segment = b.segment; writable = v } ∷ bs) ≡ segments_of w bs
    go true true e = cc
    go true false e = refl
    go false true e = refl
    go false false e = cc

segments_of-hit : (w : Bool) (b : Buffer) (bs : List Buffer) → beq b.writable w ≡ true
    → segments_of w (b ∷ bs) ≡ b.segment ∷ segments_of w bs
segments_of-hit w b bs h = go w b.writable h
  where
    go : (w v : Bool) → beq v w ≡ true → segments_of w (record { segment = b.segment; writable = v } ∷ bs)
        ≡ b.segment ∷ segments_of w bs
    go true true e = refl
    go true false e = cc
    go false true e = cc
    go false false e = refl

nothing : (w : Bool) → segments_of w [] ≡ []
nothing true = refl
nothing false = refl

-- the segments before the one that a place lies in are passed over
rest_past : (ss ts : List Segment) (k : ℕ) → size ss ≤ k → rest_at (ss ++ ts) k ≡ rest_at ts (k - size ss)
rest_past [] ts k h = ap (rest_at ts) (omega arith)
rest_past (s ∷ ss) ts k h =
    let c = sum_by-cons (λ (s : Segment). s.len) s ss in
    rest_behind s (ss ++ ts) k (omega (arith, c, h)) ∙ rest_past ss ts (k - s.len) (omega (arith, c, h))
    ∙ ap (rest_at ts) (omega (arith, c, h))

module _ (w : Bool) (xs : List Buffer) (i : ℕ) (d : Buffer) (h : i < length xs) where
  parts : xs ≡ take i xs ++ (get_or xs i d ∷ drop (i + 1) xs)
  parts = sym (take-append-drop i xs) ∙ ap (λ l. take i xs ++ l) (drop_more xs i d h)

  one_more : take (i + 1) xs ≡ take i xs ++ get_or xs i d ∷ []
  one_more = take_more xs i d h

  -- the buffer i has the place, which lies behind all bytes of those before it
  pub place_in_buffer : (place : ℕ) → len_of w (take i xs) ≤ place → place < len_of w (take (i + 1) xs)
      → (place - len_of w (take i xs) < (get_or xs i d).segment.len)
      × (record {
        addr = (get_or xs i d).segment.addr + (place - len_of w (take i xs));
        len = (get_or xs i d).segment.len - (place - len_of w (take i xs));
      }
      ≡ rest_at (segments_of w xs) place)
  place_in_buffer place from to = go (beq (get_or xs i d).writable w) refl
    where
      b : Buffer
      b = get_or xs i d

      start : ℕ
      start = len_of w (take i xs)

      counted : len_of w (take (i + 1) xs) ≡ start + len_of w (b ∷ [])
      counted = ap (len_of w) one_more ∙ len_of-append w (take i xs) (b ∷ [])

      go : (v : Bool) → beq b.writable w ≡ v → (place - start < b.segment.len)
          × (record { addr = b.segment.addr + (place - start); len = b.segment.len - (place - start) }
          ≡ rest_at (segments_of w xs) place)
      go false miss =
          let none : len_of w (b ∷ []) ≡ 0 = ap size (segments_of-miss w b [] miss ∙ nothing w) in
          absurd (omega (arith, counted, none, from, to))
      go true hit =
          let one : len_of w (b ∷ []) ≡ b.segment.len =
          ap size (segments_of-hit w b [] hit ∙ ap (λ l. b.segment ∷ l) (nothing w))
          ∙ sum_by-cons (λ (s : Segment). s.len) b.segment [] ∙ omega arith in
          let near : place - start < b.segment.len = omega (arith, counted, one, from, to) in
          let cut : segments_of w xs ≡ segments_of w (take i xs)
          ++ (b.segment ∷ segments_of w (drop (i + 1) xs)) =
          ap (segments_of w) parts ∙ segments_of-append w (take i xs) (b ∷ drop (i + 1) xs)
          ∙ ap (λ l. segments_of w (take i xs) ++ l) (segments_of-hit w b (drop (i + 1) xs) hit) in (
            near,
            sym (ap (λ ss. rest_at ss place) cut
                ∙ rest_past (segments_of w (take i xs))
                (b.segment ∷ segments_of w (drop (i + 1) xs)) place from
                ∙ rest_here b.segment (segments_of w (drop (i + 1) xs)) (place - start) near),
          )

-- the same, once buffer and start are looked up
pub place_found : (w : Bool) (all xs found : List Buffer) (i place start : ℕ) (d : Buffer) → all ≡ xs
    → found ≡ xs → i < length all
    → len_of w (take i all) ≤ place → place < len_of w (take (i + 1) all) → start ≡ len_of w (take i xs)
    → (place - start < (get_or found i d).segment.len)
    × (record {
      addr = (get_or found i d).segment.addr + (place - start);
      len = (get_or found i d).segment.len - (place - start);
    } ≡ rest_at (segments_of w all) place)
place_found w all xs found i place start d same l h from to s =
    rw (l, s, same) (place_in_buffer w xs i d (rw same at h) place (rw same at from) (rw same at to))

-- the bytes of one direction before a buffer
pub start_of : (w : Bool) (xs : List Buffer) (i : ℕ) (s : Start) → s ≡ start_at xs i
    → (if w then s.writable else s.readable) ≡ len_of w (take i xs)
start_of true xs i s e = ap (λ (s : Start). s.writable) e
start_of false xs i s e = ap (λ (s : Start). s.readable) e

-- buffers whose bytes a place lies behind aren't all
pub before_end : (w : Bool) (xs : List Buffer) (i place : ℕ) → len_of w (take i xs) ≤ place
    → place < len_of w xs → i < length xs
before_end w xs i place from to = elim (cases_lt i (length xs)) [
  | inl before ↦ before
  | inr behind ↦ absurd (omega (arith, rw (take_all i xs behind) at from, to))
]

-- the bytes of one direction before a buffer, and those before the end, are kept
pub start_in : (w : Bool) (xs : List Buffer) (starts : List Start) (n i : ℕ) (d : Start)
    → ((i : ℕ) (d : Start) → i ≤ n → get_or starts i d ≡ start_at xs i) → i ≤ n
    → (if w then (get_or starts i d).writable else (get_or starts i d).readable) ≡ len_of w (take i xs)
start_in w xs starts n i d are h = start_of w xs i (get_or starts i d) (are i d h)
