-- What is xored into a word to store a number in some of its bytes.
use Rattle.std.proofs.Common.{◌≡◌, ◌∙◌, ℕ, ◌+◌, ◌-◌, ◌*◌, ◌/◌, ◌%◌, ◌^◌, ◌<◌, ◌≤◌, inl, inr, sym, ap, subst, arith, bit_and}
use Rattle.std.specs.Prelude.{bit_xor}
use Rattle.std.specs.Int.{bit_at}
use Rattle.std.proofs.lemmas.Nat.{and_mask, pow_pos, shl_below, shl_whole, shr-shr, shr_below, shr_split, xor_lt}
use Rattle.std.proofs.lemmas.Nat.Bits.{bit_at_above, bit_at_cat_high, bit_at_cat_low, bit_at_xor, bit_at-lt, bit_at-zero, ones_shr}
use Rattle.racing_memory.specs.Words.{IsChange}

-- a bit of the lowest k
low_bit : (n k i : ℕ) → i < k → bit_at (n % 2 ^ k) i ≡ bit_at n i
low_bit n k i h =
    sym (bit_at_cat_low (n / 2 ^ k) k (n % 2 ^ k) i h) ∙ ap (λ (m : ℕ). bit_at m i) (shr_split n k)

-- a bit of a number from bit s on
high_bit : (n s i : ℕ) → bit_at (n / 2 ^ s) i ≡ bit_at n (s + i)
high_bit n s i = ap (λ (m : ℕ). m % 2) (shr-shr n s i)

-- where a number stands from bit s on, there is nothing under it
under : (x s i : ℕ) → i < s → bit_at (x * 2 ^ s) i ≡ 0
under x s i h =
    let padded : x * 2 ^ s ≡ x * 2 ^ s + 0 = omega arith in
    ap (λ (m : ℕ). bit_at m i) padded ∙ bit_at_cat_low x s 0 i h ∙ bit_at-zero i

-- and nothing over it, if it has k bits
over : (x s k i : ℕ) → x < 2 ^ k → s + k ≤ i → bit_at (x * 2 ^ s) i ≡ 0
over x s k i below h = bit_at_above (x * 2 ^ s) (k + s) i (shl_below x k s below) (omega (arith, h))

within : (x s i : ℕ) → bit_at (x * 2 ^ s) (s + i) ≡ bit_at x i
within x s i =
    let padded : x * 2 ^ s ≡ x * 2 ^ s + 0 = omega arith in
    let back : s + i - s ≡ i = omega arith in
    ap (λ (m : ℕ). bit_at m (s + i)) padded
    ∙ bit_at_cat_high x s 0 (s + i) (pow_pos s) (omega arith)
    ∙ ap (λ (j : ℕ). bit_at x j) back

-- xored with 0 a bit stays
stays : (n c i : ℕ) → bit_at c i ≡ 0 → bit_at (bit_xor n c) i ≡ bit_at n i
stays n c i none =
    let small = bit_at-lt n i in
    bit_at_xor n c i ∙ omega (arith, none, small)

-- and xored with what differs it becomes the other one
becomes : (n c i a b : ℕ) → bit_at c i ≡ (a + b) % 2 → bit_at n i ≡ a → b < 2 → bit_at (bit_xor n c) i ≡ b
becomes n c i a b differs is small =
    let least = bit_at-lt n i in
    bit_at_xor n c i ∙ omega (arith, differs, is, small, least)

-- the mask of the lowest k bits
low_mask : (k : ℕ) → k ≤ 64 → (2 ^ 64 - 1) / 2 ^ (64 - k) ≡ 2 ^ k - 1
low_mask k most =
    let back : 64 - (64 - k) ≡ k = omega (arith, most) in
    ones_shr 64 (64 - k) (omega arith) ∙ ap (λ (j : ℕ). 2 ^ j - 1) back

-- the bits that differ, as the code makes them, of a field of k bits from bit s on
fields_differ : ℕ → ℕ → ℕ → ℕ → ℕ
fields_differ word s k v = bit_xor (word / 2 ^ s % 2 ^ k) v

differ_below : (word s k v : ℕ) → v < 2 ^ k → fields_differ word s k v < 2 ^ k
unfolding fields_differ
differ_below word s k v h = xor_lt k (word / 2 ^ s % 2 ^ k) v (omega (arith, pow_pos k)) h

differ_at : (word s k v i : ℕ) → i < k → bit_at (fields_differ word s k v) i ≡ (bit_at word (s + i) + bit_at v i) % 2
unfolding fields_differ
differ_at word s k v i h =
    bit_at_xor (word / 2 ^ s % 2 ^ k) v i
    ∙ ap (λ (b : ℕ). (b + bit_at v i) % 2) (low_bit (word / 2 ^ s) k i h ∙ high_bit word s i)

-- in their place they are a change
differ_change : (word from len v : ℕ) → v < 2 ^ (8 * len)
    → IsChange word from len v (fields_differ word (8 * from) (8 * len) v * 2 ^ (8 * from))
differ_change word from len v number =
    let s = 8 * from in
    let k = 8 * len in
    let x = fields_differ word s k v in
    record {
      others = λ now i outside. stays now (x * 2 ^ s) i (elim outside [
        | inl low ↦ under x s i low
        | inr high ↦ over x s k i (differ_below word s k v number) (omega (arith, high))
      ]);
      named = λ now i inside same. becomes now (x * 2 ^ s) (s + i) (bit_at word (s + i)) (bit_at v i)
          (within x s i ∙ differ_at word s k v i inside) same (bit_at-lt v i);
    }

-- as the code finds them: by a mask, and a shift that loses nothing
pub change_made : (word from len v : ℕ) → 0 < len → from + len ≤ 8 → v < 2 ^ (8 * len)
    → IsChange word from len v (bit_xor (bit_and (word / 2 ^ (8 * from)) ((2 ^ 64 - 1) / 2 ^ (64 - 8 * len))) v
    * 2 ^ (8 * from) % 2 ^ 64)
unfolding fields_differ
change_made word from len v some inside number =
    subst (λ (c : ℕ). IsChange word from len v c) (sym shifted) (differ_change word from len v number)
  where
    s : ℕ
    s = 8 * from

    k : ℕ
    k = 8 * len

    masked : bit_xor (bit_and (word / 2 ^ s) ((2 ^ 64 - 1) / 2 ^ (64 - k))) v ≡ fields_differ word s k v
    masked =
        ap (λ (m : ℕ). bit_xor (bit_and (word / 2 ^ s) m) v) (low_mask k (omega (arith, inside)))
        ∙ ap (λ (f : ℕ). bit_xor f v) (and_mask (word / 2 ^ s) k)

    shifted : bit_xor (bit_and (word / 2 ^ s) ((2 ^ 64 - 1) / 2 ^ (64 - k))) v * 2 ^ s % 2 ^ 64
        ≡ fields_differ word s k v * 2 ^ s
    shifted =
        ap (λ (x : ℕ). x * 2 ^ s % 2 ^ 64) masked
        ∙ shl_whole (fields_differ word s k v) k s 64 (differ_below word s k v number) (omega (arith, inside))

-- the lowest bytes of a number by a mask, and its highest ones
pub low_bytes : (v len : ℕ) → len ≤ 8 → bit_and v ((2 ^ 64 - 1) / 2 ^ (64 - 8 * len)) ≡ v % 2 ^ (8 * len)
low_bytes v len most =
    ap (λ (m : ℕ). bit_and v m) (low_mask (8 * len) (omega (arith, most))) ∙ and_mask v (8 * len)

pub high_bytes_below : (v len low : ℕ) → low ≤ len → v < 2 ^ (8 * len) → v / 2 ^ (8 * low) < 2 ^ (8 * (len - low))
high_bytes_below v len low below number =
    let both : 8 * len ≡ 8 * (len - low) + 8 * low = omega (arith, below) in
    shr_below v (8 * (len - low)) (8 * low) (subst (λ (k : ℕ). v < 2 ^ k) both number)
