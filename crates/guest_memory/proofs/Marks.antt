-- Writes mark the pages that they change.
use Rattle.std.proofs.Common.{◌≡◌, ◌⊎◌, inl, inr, ℕ, zero, suc, ◌+◌, ◌*◌, ◌-◌, ◌<◌, ◌≤◌, Bool, true, false, Option, Some, List, [], ◌∷◌, length, take, drop, refl, sym, ◌∙◌, ap, arith, length-take, length-append, length-drop}
use Rattle.std.specs.Prelude.{◌||◌}
use Rattle.std.specs.List.{slice_get}
use Rattle.std.proofs.lemmas.Bool.{cases_lt}
use Rattle.std.proofs.lemmas.Bool.Decides.{nat_tests}
use Rattle.std.proofs.lemmas.List.{places, same_lists}
use Rattle.guest_memory.specs.Marks.{MarksWrites}
use Rattle.guest_memory.specs.Memory.{Gap, Memory, put, put_at, up_to_gap}
use Rattle.guest_memory.specs.Pages.{is_reached, marked, page_size}
use Rattle.guest_memory.proofs.Gaps.{up_to_gap-none, up_to_gap-behind, up_to_gap-before}
use Rattle.guest_memory.proofs.Marking.{marked-cons, marked-nil}
use Rattle.guest_memory.proofs.Ranges.{length-put_at, put_range, same_trans}

pub marks_nothing : (m : Memory) → MarksWrites m m
marks_nothing m = record {
  range = record { base = refl; size = refl; gaps = refl };
  bits = refl;
  stay = λ k h. h;
  clear = λ k h. refl;
}

-- a bit that is clear in the end was clear before
bit_there : (bits : List Bool) (k : ℕ) → k < length bits → (slice_get bits k ≡ Some true) ⊎ (slice_get bits k ≡ Some false)
bit_there [] k within = absurd (omega (arith, within))
bit_there (true ∷ bits) zero within = inl refl
bit_there (false ∷ bits) zero within = inr refl
bit_there (bit ∷ bits) (suc k) within = bit_there bits k (omega (arith, within))

bit_within : (bits : List Bool) (k : ℕ) (bit : Bool) → slice_get bits k ≡ Some bit → k < length bits
bit_within [] k bit h = absurd (cc h)
bit_within (b ∷ bits) zero bit h = omega arith
bit_within (b ∷ bits) (suc k) bit h = omega (arith, bit_within bits k bit h)

two_bits : (o : Option Bool) → o ≡ Some true → o ≡ Some false → ⊥
two_bits o a b = cc

pub marks_both : (a b c : Memory) → MarksWrites a b → MarksWrites b c → MarksWrites a c
marks_both a b c p q = record {
  range = same_trans a b c p.range q.range;
  bits = q.bits ∙ p.bits;
  stay = λ k h. q.stay k (p.stay k h);
  clear = λ k h.
      let within : k < length b.pages = omega (arith, bit_within c.pages k false h, q.bits) in
      elim (bit_there b.pages k within) [
        | inl set ↦ absurd (two_bits (slice_get c.pages k) (q.stay k set) h)
        | inr clear ↦ q.clear k h ∙ p.clear k clear
      ];
}

-- ---- one write

length-marked : (page i n : ℕ) (bits : List Bool) → length (marked page i n bits) ≡ length bits
length-marked page i n [] = ap (λ (bs : List Bool). length bs) (marked-nil page i n)
length-marked page i n (bit ∷ bits) =
    ap (λ (bs : List Bool). length bs) (marked-cons page i n bit bits)
    ∙ ap suc (length-marked (page + page_size) i n bits)

-- a bit stays set
marked_stays : (page i n : ℕ) (bits : List Bool) (k : ℕ) → slice_get bits k ≡ Some true
    → slice_get (marked page i n bits) k ≡ Some true
marked_stays page i n [] k h = absurd (cc h)
marked_stays page i n (bit ∷ bits) zero h =
    let set : bit ≡ true = cc h in
    ap (λ (bs : List Bool). slice_get bs 0) (marked-cons page i n bit bits)
    ∙ ap (λ (b : Bool). Some (b || is_reached page i n)) set
marked_stays page i n (bit ∷ bits) (suc k) h =
    ap (λ (bs : List Bool). slice_get bs (suc k)) (marked-cons page i n bit bits)
    ∙ marked_stays (page + page_size) i n bits k h

or_none : (one other : Bool) → Some (one || other) ≡ Some false → other ≡ false
or_none true other h = absurd (cc h)
or_none false other h = cc h

-- and one that is clear is that of a page which isn't reached
marked_clear : (page i n : ℕ) (bits : List Bool) (k : ℕ) → slice_get (marked page i n bits) k ≡ Some false
    → is_reached (page + page_size * k) i n ≡ false
marked_clear page i n [] k h = absurd (cc (sym (ap (λ (bs : List Bool). slice_get bs k) (marked-nil page i n)) ∙ h))
marked_clear page i n (bit ∷ bits) zero h =
    ap (λ (p : ℕ). is_reached p i n) (omega arith)
    ∙ or_none bit (is_reached page i n)
    (sym (ap (λ (bs : List Bool). slice_get bs 0) (marked-cons page i n bit bits)) ∙ h)
marked_clear page i n (bit ∷ bits) (suc k) h =
    ap (λ (p : ℕ). is_reached p i n) (omega arith)
    ∙ marked_clear (page + page_size) i n bits k
    (sym (ap (λ (bs : List Bool). slice_get bs (suc k)) (marked-cons page i n bit bits)) ∙ h)

length-up_to_gap : (gs : List Gap) (a : ℕ) (bs : List ℕ) → length (up_to_gap gs a bs) ≤ length bs
length-up_to_gap [] a bs = omega (arith, ap (λ (ws : List ℕ). length ws) (up_to_gap-none a bs))
length-up_to_gap (g ∷ gs) a bs =
    elim (cases_lt a g.end) [
      | inl under ↦ omega (
        arith,
        ap (λ (ws : List ℕ). length ws) (up_to_gap-before g gs a bs under),
        length-take (g.start - a) bs,
      )
      | inr behind ↦ omega (
        arith,
        ap (λ (ws : List ℕ). length ws) (up_to_gap-behind g gs a bs behind),
        length-up_to_gap gs a bs,
      )
    ]

-- bytes beside those that are written stay
beside_before : (xs : List ℕ) (i : ℕ) (ws : List ℕ) (from n : ℕ) → from + n ≤ i
    → take n (drop from (put_at xs i ws)) ≡ take n (drop from xs)
beside_before xs i ws from n apart =
    same_lists _ _ (simp (length-take, length-append, length-drop) (omega arith))
    (λ k d h. grind (arith, places))

beside_behind : (xs : List ℕ) (i : ℕ) (ws : List ℕ) (from n : ℕ) → i + length ws ≤ from
    → take n (drop from (put_at xs i ws)) ≡ take n (drop from xs)
beside_behind xs i ws from n apart =
    same_lists _ _ (simp (length-take, length-append, length-drop) (omega arith))
    (λ k d h. grind (arith, places))

no_bytes : (xs : List ℕ) (i : ℕ) (ws : List ℕ) → length ws ≡ 0 → put_at xs i ws ≡ xs
no_bytes xs i [] none = same_lists _ _ (length-put_at xs i []) (λ k d h. grind (arith, places))
no_bytes xs i (w ∷ ws) none = absurd (omega (arith, none))

unreached : (page i n : ℕ) → is_reached page i n ≡ false
    → (n ≡ 0) ⊎ ((page + page_size ≤ i) ⊎ (i + n ≤ page))
unreached page i n h =
    elim (cases_lt 0 n) [
      | inl some ↦ elim (cases_lt i (page + page_size)) [
        | inl under ↦ elim (cases_lt page (i + n)) [
          | inl over ↦ absurd (grind (arith, nat_tests, h, some, under, over))
          | inr behind ↦ inr (inr behind)
        ]
        | inr before ↦ inr (inl before)
      ]
      | inr none ↦ inl (omega (arith, none))
    ]

pub marks_put : (m : Memory) (a : ℕ) (bs : List ℕ) → MarksWrites m (put m a bs)
marks_put m a bs =
    let i = a - m.base in
    let ws = up_to_gap m.gaps a bs in
    let few : length ws ≤ length bs = length-up_to_gap m.gaps a bs in
    record {
      range = put_range m a bs;
      bits = length-marked 0 i (length bs) m.pages;
      stay = λ k h. marked_stays 0 i (length bs) m.pages k h;
      clear = λ k h.
          elim (unreached (0 + page_size * k) i (length bs) (marked_clear 0 i (length bs) m.pages k h)) [
            | inl none ↦ ap (λ (xs : List ℕ). take page_size (drop (page_size * k) xs))
                (no_bytes m.bytes i ws (omega (arith, none, few)))
            | inr (inl before) ↦ beside_before m.bytes i ws (page_size * k) page_size (omega (arith, before))
            | inr (inr behind) ↦ beside_behind m.bytes i ws (page_size * k) page_size (omega (arith, behind, few))
          ];
    }
