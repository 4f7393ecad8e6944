-- A bit of a page is set in its byte.
use Rattle.std.proofs.Common.{◌≡◌, ◌≢◌, ◌⊎◌, inl, inr, ℕ, zero, suc, ◌+◌, ◌*◌, ◌^◌, ◌/◌, ◌%◌, ◌<◌, Bool, true, false, ◌-◌, ◌≤◌, min, List, [], ◌∷◌, length, refl, sym, ◌∙◌, ap, arith, w8}
use Rattle.std.specs.Prelude.{slice_index_or, slice_set, bit_or, ◌==◌, ◌||◌, ◌&&◌, nat_le, nat_lt}
use Rattle.std.proofs.lemmas.Bool.Decides.{nat_tests}
use Rattle.std.proofs.lemmas.Nat.Bits.{bit_at_set_same, bit_at_set_other}
use Rattle.guest_memory.specs.Pages.{bits_of, is_reached, is_set, marked}
use Rattle.guest_memory.proofs.Marking.{marked-cons, marked-nil}

-- the byte with bit k set
abbrev with_bit : ℕ → ℕ → ℕ
with_bit byte k = bit_or byte (1 * 2 ^ k % 256)

same_bit : (byte k : ℕ) → k < 8 → is_set (with_bit byte k) k ≡ true
same_bit byte k within = ap (λ (n : ℕ). n == 1) (bit_at_set_same w8 byte k within)

other_bit : (byte k i : ℕ) → k < 8 → i ≢ k → is_set (with_bit byte k) i ≡ is_set byte i
other_bit byte k i within other = ap (λ (n : ℕ). n == 1) (bit_at_set_other w8 byte k within i other)

eight : (x0 x1 x2 x3 x4 x5 x6 x7 y0 y1 y2 y3 y4 y5 y6 y7 : Bool) (bits : List Bool) → x0 ≡ y0 → x1 ≡ y1 → x2 ≡ y2 → x3 ≡ y3 → x4 ≡ y4 → x5 ≡ y5 → x6 ≡ y6 → x7 ≡ y7
    → (x0 ∷ x1 ∷ x2 ∷ x3 ∷ x4 ∷ x5 ∷ x6 ∷ x7 ∷ bits) ≡ (y0 ∷ y1 ∷ y2 ∷ y3 ∷ y4 ∷ y5 ∷ y6 ∷ y7 ∷ bits)
eight x0 x1 x2 x3 x4 x5 x6 x7 y0 y1 y2 y3 y4 y5 y6 y7 bits p0 p1 p2 p3 p4 p5 p6 p7 = rw (p0, p1, p2, p3, p4, p5, p6, p7) refl

bits_of-cons : (byte : ℕ) (bytes : List ℕ) → bits_of (byte ∷ bytes) ≡
    is_set byte 0 ∷ is_set byte 1 ∷ is_set byte 2 ∷ is_set byte 3 ∷ is_set byte 4 ∷ is_set byte 5 ∷ is_set byte 6 ∷ is_set byte 7 ∷ bits_of bytes
unfolding bits_of
bits_of-cons byte bytes = refl

set_first : (byte k : ℕ) (bytes : List ℕ) → k < 8
    → bits_of (with_bit byte k ∷ bytes) ≡ slice_set (bits_of (byte ∷ bytes)) k true
set_first byte zero bytes within =
    bits_of-cons (with_bit byte 0) bytes
    ∙ eight _ _ _ _ _ _ _ _ _ _ _ _ _ _ _ _ (bits_of bytes) (same_bit byte 0 (omega arith)) (other_bit byte 0 1 (omega arith) (λ e. absurd (cc e))) (other_bit byte 0 2 (omega arith) (λ e. absurd (cc e))) (other_bit byte 0 3 (omega arith) (λ e. absurd (cc e))) (other_bit byte 0 4 (omega arith) (λ e. absurd (cc e))) (other_bit byte 0 5 (omega arith) (λ e. absurd (cc e))) (other_bit byte 0 6 (omega arith) (λ e. absurd (cc e))) (other_bit byte 0 7 (omega arith) (λ e. absurd (cc e)))
    ∙ sym (ap (λ (bits : List Bool). slice_set bits 0 true) (bits_of-cons byte bytes))
set_first byte (suc zero) bytes within =
    bits_of-cons (with_bit byte 1) bytes
    ∙ eight _ _ _ _ _ _ _ _ _ _ _ _ _ _ _ _ (bits_of bytes) (other_bit byte 1 0 (omega arith) (λ e. absurd (cc e))) (same_bit byte 1 (omega arith)) (other_bit byte 1 2 (omega arith) (λ e. absurd (cc e))) (other_bit byte 1 3 (omega arith) (λ e. absurd (cc e))) (other_bit byte 1 4 (omega arith) (λ e. absurd (cc e))) (other_bit byte 1 5 (omega arith) (λ e. absurd (cc e))) (other_bit byte 1 6 (omega arith) (λ e. absurd (cc e))) (other_bit byte 1 7 (omega arith) (λ e. absurd (cc e)))
    ∙ sym (ap (λ (bits : List Bool). slice_set bits 1 true) (bits_of-cons byte bytes))
set_first byte (suc (suc zero)) bytes within =
    bits_of-cons (with_bit byte 2) bytes
    ∙ eight _ _ _ _ _ _ _ _ _ _ _ _ _ _ _ _ (bits_of bytes) (other_bit byte 2 0 (omega arith) (λ e. absurd (cc e))) (other_bit byte 2 1 (omega arith) (λ e. absurd (cc e))) (same_bit byte 2 (omega arith)) (other_bit byte 2 3 (omega arith) (λ e. absurd (cc e))) (other_bit byte 2 4 (omega arith) (λ e. absurd (cc e))) (other_bit byte 2 5 (omega arith) (λ e. absurd (cc e))) (other_bit byte 2 6 (omega arith) (λ e. absurd (cc e))) (other_bit byte 2 7 (omega arith) (λ e. absurd (cc e)))
    ∙ sym (ap (λ (bits : List Bool). slice_set bits 2 true) (bits_of-cons byte bytes))
set_first byte (suc (suc (suc zero))) bytes within =
    bits_of-cons (with_bit byte 3) bytes
    ∙ eight _ _ _ _ _ _ _ _ _ _ _ _ _ _ _ _ (bits_of bytes) (other_bit byte 3 0 (omega arith) (λ e. absurd (cc e))) (other_bit byte 3 1 (omega arith) (λ e. absurd (cc e))) (other_bit byte 3 2 (omega arith) (λ e. absurd (cc e))) (same_bit byte 3 (omega arith)) (other_bit byte 3 4 (omega arith) (λ e. absurd (cc e))) (other_bit byte 3 5 (omega arith) (λ e. absurd (cc e))) (other_bit byte 3 6 (omega arith) (λ e. absurd (cc e))) (other_bit byte 3 7 (omega arith) (λ e. absurd (cc e)))
    ∙ sym (ap (λ (bits : List Bool). slice_set bits 3 true) (bits_of-cons byte bytes))
set_first byte (suc (suc (suc (suc zero)))) bytes within =
    bits_of-cons (with_bit byte 4) bytes
    ∙ eight _ _ _ _ _ _ _ _ _ _ _ _ _ _ _ _ (bits_of bytes) (other_bit byte 4 0 (omega arith) (λ e. absurd (cc e))) (other_bit byte 4 1 (omega arith) (λ e. absurd (cc e))) (other_bit byte 4 2 (omega arith) (λ e. absurd (cc e))) (other_bit byte 4 3 (omega arith) (λ e. absurd (cc e))) (same_bit byte 4 (omega arith)) (other_bit byte 4 5 (omega arith) (λ e. absurd (cc e))) (other_bit byte 4 6 (omega arith) (λ e. absurd (cc e))) (other_bit byte 4 7 (omega arith) (λ e. absurd (cc e)))
    ∙ sym (ap (λ (bits : List Bool). slice_set bits 4 true) (bits_of-cons byte bytes))
set_first byte (suc (suc (suc (suc (suc zero))))) bytes within =
    bits_of-cons (with_bit byte 5) bytes
    ∙ eight _ _ _ _ _ _ _ _ _ _ _ _ _ _ _ _ (bits_of bytes) (other_bit byte 5 0 (omega arith) (λ e. absurd (cc e))) (other_bit byte 5 1 (omega arith) (λ e. absurd (cc e))) (other_bit byte 5 2 (omega arith) (λ e. absurd (cc e))) (other_bit byte 5 3 (omega arith) (λ e. absurd (cc e))) (other_bit byte 5 4 (omega arith) (λ e. absurd (cc e))) (same_bit byte 5 (omega arith)) (other_bit byte 5 6 (omega arith) (λ e. absurd (cc e))) (other_bit byte 5 7 (omega arith) (λ e. absurd (cc e)))
    ∙ sym (ap (λ (bits : List Bool). slice_set bits 5 true) (bits_of-cons byte bytes))
set_first byte (suc (suc (suc (suc (suc (suc zero)))))) bytes within =
    bits_of-cons (with_bit byte 6) bytes
    ∙ eight _ _ _ _ _ _ _ _ _ _ _ _ _ _ _ _ (bits_of bytes) (other_bit byte 6 0 (omega arith) (λ e. absurd (cc e))) (other_bit byte 6 1 (omega arith) (λ e. absurd (cc e))) (other_bit byte 6 2 (omega arith) (λ e. absurd (cc e))) (other_bit byte 6 3 (omega arith) (λ e. absurd (cc e))) (other_bit byte 6 4 (omega arith) (λ e. absurd (cc e))) (other_bit byte 6 5 (omega arith) (λ e. absurd (cc e))) (same_bit byte 6 (omega arith)) (other_bit byte 6 7 (omega arith) (λ e. absurd (cc e)))
    ∙ sym (ap (λ (bits : List Bool). slice_set bits 6 true) (bits_of-cons byte bytes))
set_first byte (suc (suc (suc (suc (suc (suc (suc zero))))))) bytes within =
    bits_of-cons (with_bit byte 7) bytes
    ∙ eight _ _ _ _ _ _ _ _ _ _ _ _ _ _ _ _ (bits_of bytes) (other_bit byte 7 0 (omega arith) (λ e. absurd (cc e))) (other_bit byte 7 1 (omega arith) (λ e. absurd (cc e))) (other_bit byte 7 2 (omega arith) (λ e. absurd (cc e))) (other_bit byte 7 3 (omega arith) (λ e. absurd (cc e))) (other_bit byte 7 4 (omega arith) (λ e. absurd (cc e))) (other_bit byte 7 5 (omega arith) (λ e. absurd (cc e))) (other_bit byte 7 6 (omega arith) (λ e. absurd (cc e))) (same_bit byte 7 (omega arith))
    ∙ sym (ap (λ (bits : List Bool). slice_set bits 7 true) (bits_of-cons byte bytes))
set_first byte (suc (suc (suc (suc (suc (suc (suc (suc k)))))))) bytes within = absurd (omega arith)

-- bit k of the byte at place q
abbrev place : ℕ → ℕ → ℕ
place zero k = k
place (suc q) k = suc (suc (suc (suc (suc (suc (suc (suc (place q k))))))))

place_is : (q k : ℕ) → place q k ≡ k + 8 * q
place_is zero k = omega arith
place_is (suc q) k = omega (arith, place_is q k)

set_at : (bytes : List ℕ) (q k : ℕ) → k < 8 → q < length bytes
    → bits_of (slice_set bytes q (with_bit (slice_index_or bytes q 0) k))
    ≡ slice_set (bits_of bytes) (place q k) true
set_at [] q k within there = absurd (omega arith)
set_at (byte ∷ bytes) zero k within there = set_first byte k bytes within
set_at (byte ∷ bytes) (suc q) k within there =
    bits_of-cons byte (slice_set bytes q (with_bit (slice_index_or bytes q 0) k))
    ∙ ap (λ (bits : List Bool). is_set byte 0 ∷ is_set byte 1 ∷ is_set byte 2 ∷ is_set byte 3 ∷ is_set byte 4
    ∷ is_set byte 5 ∷ is_set byte 6 ∷ is_set byte 7 ∷ bits) (set_at bytes q k within (omega arith))
    ∙ sym (ap (λ (bits : List Bool). slice_set bits (place (suc q) k) true) (bits_of-cons byte bytes))

pub set_bit : (bytes : List ℕ) (page : ℕ) → page < 8 * length bytes
    → bits_of (slice_set bytes (page / 8) (with_bit (slice_index_or bytes (page / 8) 0) (page % 8)))
    ≡ slice_set (bits_of bytes) page true
set_bit bytes page there =
    set_at bytes (page / 8) (page % 8) (omega arith) (omega arith)
    ∙ ap (λ (i : ℕ). slice_set (bits_of bytes) i true)
    (place_is (page / 8) (page % 8) ∙ omega arith)

bits_of-nil : bits_of [] ≡ []
unfolding bits_of
bits_of-nil = refl

length-bits_of : (bytes : List ℕ) → length (bits_of bytes) ≡ 8 * length bytes
length-bits_of [] = omega (arith, ap (λ (bits : List Bool). length bits) bits_of-nil)
length-bits_of (byte ∷ bytes) =
    omega (arith, ap (λ (bits : List Bool). length bits) (bits_of-cons byte bytes), length-bits_of bytes)

-- ---- a run of pages

-- the bits from page lo to the page before hi are set, where the first of these is that of page k
abbrev pub filled : ℕ → ℕ → ℕ → List Bool → List Bool
filled lo hi k [] = []
filled lo hi k (bit ∷ bits) = (bit || (nat_le lo k && nat_lt k hi)) ∷ filled lo hi (suc k) bits

or_false : (bit test : Bool) → test ≡ false → (bit || test) ≡ bit
or_false true test is = refl
or_false false test is = is

or_true : (bit test : Bool) → test ≡ true → (bit || test) ≡ true
or_true true test is = refl
or_true false test is = is

-- no page from hi on is set
filled_behind : (lo hi k : ℕ) (bits : List Bool) → hi ≤ k → filled lo hi k bits ≡ bits
filled_behind lo hi k [] behind = refl
filled_behind lo hi k (bit ∷ bits) behind =
    let test : (nat_le lo k && nat_lt k hi) ≡ false = grind (arith, nat_tests) in
    rw (or_false bit (nat_le lo k && nat_lt k hi) test, filled_behind lo hi (suc k) bits (omega arith)) refl

pub filled_none : (lo k : ℕ) (bits : List Bool) → filled lo lo k bits ≡ bits
filled_none lo k [] = refl
filled_none lo k (bit ∷ bits) =
    let test : (nat_le lo k && nat_lt k lo) ≡ false = grind (arith, nat_tests) in
    rw (or_false bit (nat_le lo k && nat_lt k lo) test, filled_none lo (suc k) bits) refl

-- one page more
filled_more : (lo hi j k : ℕ) (bits : List Bool) → hi ≡ k + j → lo ≤ hi
    → slice_set (filled lo hi k bits) j true ≡ filled lo (hi + 1) k bits
filled_more lo hi j k [] is above = none j
  where
    none : (j : ℕ) → slice_set [] j true ≡ []
    none zero = refl
    none (suc j) = refl
filled_more lo hi zero k (bit ∷ bits) is above =
    let test : (nat_le lo k && nat_lt k (hi + 1)) ≡ true = grind (arith, nat_tests) in
    rw (
      or_true bit (nat_le lo k && nat_lt k (hi + 1)) test,
      filled_behind lo hi (suc k) bits (omega (arith, is)),
      filled_behind lo (hi + 1) (suc k) bits (omega (arith, is)),
    ) refl
filled_more lo hi (suc j) k (bit ∷ bits) is above =
    let same : nat_lt k hi ≡ nat_lt k (hi + 1) = grind (arith, nat_tests, is) in
    rw (same, filled_more lo hi j (suc k) bits (omega (arith, is)) above) refl

pub one_page_more : (lo hi : ℕ) (bits : List Bool) → lo ≤ hi
    → slice_set (filled lo hi 0 bits) hi true ≡ filled lo (hi + 1) 0 bits
one_page_more lo hi bits above = filled_more lo hi hi 0 bits (omega arith) above

-- the pages that are reached are such a run
reached_run : (i n k limit : ℕ) → 0 < n → k < limit
    → is_reached (4096 * k) i n ≡ (nat_le (i / 4096) k && nat_lt k (min ((i + (n - 1)) / 4096 + 1) limit))
reached_run i n k limit some within = grind (arith, nat_tests)

marked_run : (i n k limit : ℕ) (bits : List Bool) → 0 < n → k + length bits ≤ limit
    → marked (4096 * k) i n bits ≡ filled (i / 4096) (min ((i + (n - 1)) / 4096 + 1) limit) k bits
marked_run i n k limit [] some within = marked-nil (4096 * k) i n
marked_run i n k limit (bit ∷ bits) some within =
    let next : 4096 * k + 4096 ≡ 4096 * suc k = omega arith in
    marked-cons (4096 * k) i n bit bits
    ∙ ap (λ (t : Bool). (bit || t) ∷ marked (4096 * k + 4096) i n bits) (reached_run i n k limit some (omega arith))
    ∙ ap (λ (bs : List Bool). (bit || (nat_le (i / 4096) k
    && nat_lt k (min ((i + (n - 1)) / 4096 + 1) limit))) ∷ bs)
    (ap (λ (page : ℕ). marked page i n bits) next ∙ marked_run i n (suc k) limit bits some (omega arith))

-- so where the run ends with the bytes, it is all that is marked
pub marked_is : (i n hi limit : ℕ) (bytes : List ℕ) → i + n ≤ 2 ^ 64 → ¬ (n ≡ 0)
    → limit ≡ min (length bytes * 8) (2 ^ 64 - 1) → hi ≡ min ((i + (n - 1)) / 4096 + 1) limit
    → marked 0 i n (bits_of bytes) ≡ filled (i / 4096) hi 0 (bits_of bytes)
marked_is i n hi limit bytes fits some pages is =
    let ends : min ((i + (n - 1)) / 4096 + 1) (8 * length bytes) ≡ hi = omega (arith, fits, pages, is) in
    marked_run i n 0 (8 * length bytes) (bits_of bytes) (omega (arith, some)) (omega (arith, length-bits_of bytes))
    ∙ ap (λ (k : ℕ). filled (i / 4096) k 0 (bits_of bytes)) ends

-- of no page where the run ends before it begins
pub filled_to : (lo hi at : ℕ) (bits : List Bool) → lo ≤ at → hi ≤ at → (at ≡ lo) ⊎ (at ≡ hi)
    → filled lo at 0 bits ≡ filled lo hi 0 bits
filled_to lo hi at bits above below (inl is) =
    ap (λ (k : ℕ). filled lo k 0 bits) is ∙ filled_none lo 0 bits ∙ sym (none lo hi 0 bits (omega (arith, is, below)))
  where
    none : (lo hi k : ℕ) (bits : List Bool) → hi ≤ lo → filled lo hi k bits ≡ bits
    none lo hi k [] less = refl
    none lo hi k (bit ∷ bits) less =
        let test : (nat_le lo k && nat_lt k hi) ≡ false = grind (arith, nat_tests) in
        rw (or_false bit (nat_le lo k && nat_lt k hi) test, none lo hi (suc k) bits less) refl
filled_to lo hi at bits above below (inr is) = ap (λ (k : ℕ). filled lo k 0 bits) is
