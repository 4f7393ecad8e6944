-- Tags in flight as a set of bits: which is the lowest free one, and what becomes of the set as a tag is taken or freed.
use Rattle.std.proofs.Common.{◌≡◌, ◌≢◌, ◌∙◌, inl, inr, ℕ, zero, suc, ◌+◌, ◌-◌, ◌*◌, ◌/◌, ◌%◌, ◌^◌, ◌<◌, ◌≤◌, true, false, Option, Some, None, List, [], ◌∷◌, length, take, drop, ◌++◌, get_or, set, replicate, bit_and, bit_or, w64, nat_eq, not, refl, sym, ap, arith}
use Rattle.std.specs.Int.{bit_at, bit_not, trailing_zeros}
use Rattle.std.specs.Int.Count.{count_trailing_zeros}
use Rattle.std.specs.Option.{option_map}
use Rattle.std.proofs.lemmas.Bool.{cases_eq, cases_lt, eq-eqb, ne_eqb}
use Rattle.std.proofs.lemmas.List.{get_or-set_other, get_or-set_same, length-map, length-set}
use Rattle.std.proofs.Math.Seq.{take-append_seam}
use Rattle.std.proofs.lemmas.Nat.{and_le_l}
use Rattle.std.proofs.lemmas.Nat.Bits.{bit_at-suc, bit_at-zero, bit_at_above, bit_at_clear_other, bit_at_clear_same, bit_at_set_other, bit_at_set_same, same_from_bits}
use Rattle.std.proofs.Math.Nat.{pow-suc}
use Rattle.std.proofs.Math.Pow.{pow_mono}
use Rattle.block_device.specs.Tags.{free_tag, is_any, taken_bits}
use Rattle.block_device.specs.Tags.{freed as all_freed}

-- ---- the set

pub taken_few : {A : Type 0} (tags : List (Option A)) → taken_bits tags < 2 ^ length tags
taken_few [] = omega arith
taken_few (None ∷ tags) = let rest = taken_few tags in omega (arith, rest, pow-suc 2 (length tags))
taken_few (Some here ∷ tags) = let rest = taken_few tags in omega (arith, rest, pow-suc 2 (length tags))

pub none_taken : (A : Type 0) (depth : ℕ) → taken_bits {A = A} (replicate depth None) ≡ 0
none_taken A zero = refl
none_taken A (suc depth) = let rest = none_taken A depth in omega (arith, rest)

-- it is empty where nothing is in flight
pub none_busy : {A : Type 0} (tags : List (Option A)) → taken_bits tags ≡ 0 → is_any tags ≡ false
none_busy [] none = refl
none_busy (None ∷ tags) none = none_busy tags (omega (arith, none))
none_busy (Some here ∷ tags) none = absurd (omega (arith, none))

pub some_busy : {A : Type 0} (tags : List (Option A)) → taken_bits tags ≢ 0 → is_any tags ≡ true
some_busy [] some = absurd (some refl)
some_busy (None ∷ tags) some = some_busy tags (λ none. some (omega (arith, none)))
some_busy (Some here ∷ tags) some = refl

pub busy_by : {A : Type 0} (n : ℕ) (tags : List (Option A)) → n ≡ taken_bits tags → not (nat_eq n 0) ≡ is_any tags
busy_by n tags is =
    rw is (elim (cases_eq (taken_bits tags) 0) [
      | inl none ↦ ap not (eq-eqb (taken_bits tags) 0 none) ∙ sym (none_busy tags none)
      | inr some ↦ ap not (ne_eqb (taken_bits tags) 0 some) ∙ sym (some_busy tags some)
    ])

-- that of new tags
pub new_tags : {A : Type 0} (depth : ℕ) (tags : List (Option A)) → tags ≡ replicate (length tags) None → length tags ≤ depth
    → depth ≤ 64 → (length tags ≤ 64) × (0 ≡ taken_bits tags)
new_tags depth tags free most few =
    (omega (arith, most, few), sym (ap taken_bits free ∙ none_taken _ (length tags)))

-- ---- the lowest free tag

abbrev pub first_free : {A : Type 0} → List (Option A) → ℕ
first_free [] = 0
first_free (None ∷ tags) = 0
first_free (Some here ∷ tags) = suc (first_free tags)

-- The bits that aren't set begin with it.
lowest_of : {A : Type 0} (k : ℕ) (tags : List (Option A)) → length tags ≤ k
    → count_trailing_zeros k (2 ^ k - 1 - taken_bits tags) ≡ first_free tags
unfolding count_trailing_zeros
lowest_of zero [] fits = refl
lowest_of (suc k) [] fits =
    let least : 0 ≤ k = omega arith in
    let room : 2 ^ 0 ≤ 2 ^ k = pow_mono least in
    let odd : (2 ^ suc k - 1 - 0) % 2 ≡ 1 = omega (arith, pow-suc 2 k, room) in
    rw odd refl
lowest_of zero (tag ∷ tags) fits = absurd (omega (arith, fits))
lowest_of (suc k) (None ∷ tags) fits =
    let few = taken_few tags in
    let fewer : length tags ≤ k = omega (arith, fits) in
    let room : 2 ^ length tags ≤ 2 ^ k = pow_mono fewer in
    let odd : (2 ^ suc k - 1 - 2 * taken_bits tags) % 2 ≡ 1 = omega (arith, pow-suc 2 k, few, room) in
    rw odd refl
lowest_of (suc k) (Some here ∷ tags) fits =
    let few = taken_few tags in
    let fewer : length tags ≤ k = omega (arith, fits) in
    let room : 2 ^ length tags ≤ 2 ^ k = pow_mono fewer in
    let even : (2 ^ suc k - 1 - (1 + 2 * taken_bits tags)) % 2 ≡ 0 = omega (arith, pow-suc 2 k, few, room) in
    let half : (2 ^ suc k - 1 - (1 + 2 * taken_bits tags)) / 2 ≡ 2 ^ k - 1 - taken_bits tags =
    omega (arith, pow-suc 2 k, few, room) in
    rw (even, half) (ap suc (lowest_of k tags (omega (arith, fits))))

pub lowest_free : {A : Type 0} (n : ℕ) (tags : List (Option A)) → length tags ≤ 64 → n ≡ taken_bits tags
    → trailing_zeros w64 (bit_not w64 n) ≡ first_free tags
lowest_free n tags most is = rw is (lowest_of 64 tags most)

free_first : {A : Type 0} (tags : List (Option A)) → first_free tags < length tags
    → free_tag tags ≡ Some (first_free tags)
free_first [] below = absurd (omega (arith, below))
free_first (None ∷ tags) below = refl
free_first (Some here ∷ tags) below = ap (option_map suc) (free_first tags (omega (arith, below)))

pub free_at : {A : Type 0} (tags : List (Option A)) (i : ℕ) → i ≡ first_free tags → i < length tags → free_tag tags ≡ Some i
free_at tags i is below = free_first tags (omega (arith, is, below)) ∙ ap Some (sym is)

pub none_free : {A : Type 0} (tags : List (Option A)) → length tags ≤ first_free tags → free_tag tags ≡ None
none_free [] full = refl
none_free (None ∷ tags) full = absurd (omega (arith, full))
none_free (Some here ∷ tags) full = ap (option_map suc) (none_free tags (omega (arith, full)))

-- what is counted in the set is a free tag, or there is none
pub free_below : {A : Type 0} (tags : List (Option A)) (n i : ℕ) → length tags ≤ 64 → n ≡ taken_bits tags
    → i ≡ trailing_zeros w64 (bit_not w64 n) → i < length tags → Some i ≡ free_tag tags
free_below tags n i most is counted below = sym (free_at tags i (counted ∙ lowest_free n tags most is) below)

pub free_nowhere : {A : Type 0} (tags : List (Option A)) (n i : ℕ) → length tags ≤ 64 → n ≡ taken_bits tags
    → i ≡ trailing_zeros w64 (bit_not w64 n) → length tags ≤ i → None ≡ free_tag tags
free_nowhere tags n i most is counted full =
    let first = counted ∙ lowest_free n tags most is in sym (none_free tags (omega (arith, first, full)))

-- once it is taken the next one lies behind it
next_free : {A : Type 0} (tags : List (Option A)) (here : A) → first_free tags < length tags
    → first_free tags < first_free (set tags (first_free tags) (Some here))
next_free [] here below = absurd (omega (arith, below))
next_free (None ∷ tags) here below = omega arith
next_free (Some other ∷ tags) here below =
    let rest = next_free tags here (omega (arith, below)) in omega (arith, rest)

pub fewer_free : {A : Type 0} (tags : List (Option A)) (i : ℕ) (here : A) → free_tag tags ≡ Some i
    → length (set tags i (Some here)) - first_free (set tags i (Some here)) < length tags - first_free tags
fewer_free tags i here free =
    elim (cases_lt (first_free tags) (length tags)) [
      | inl below ↦
          let is : first_free tags ≡ i = some_is (sym (free_first tags below) ∙ free) in
          let further = next_free tags here below in
          let size = length-set tags (first_free tags) (Some here) in
          rw (← is) (omega (arith, further, size, below))
      | inr full ↦ absurd (cc (none_free tags full))
    ]
  where
    some_is : {j k : ℕ} → Some j ≡ Some k → j ≡ k
    some_is e = cc e

-- ---- one bit

abbrev bit_of : {A : Type 0} → Option A → ℕ
bit_of None = 0
bit_of (Some here) = 1

even_at : (n i : ℕ) → bit_at (2 * n) (suc i) ≡ bit_at n i
even_at n i =
    let half : 2 * n / 2 ≡ n = omega arith in
    bit_at-suc (2 * n) i ∙ ap (λ (m : ℕ). bit_at m i) half

odd_at : (n i : ℕ) → bit_at (1 + 2 * n) (suc i) ≡ bit_at n i
odd_at n i =
    let half : (1 + 2 * n) / 2 ≡ n = omega arith in
    bit_at-suc (1 + 2 * n) i ∙ ap (λ (m : ℕ). bit_at m i) half

pub bit_taken : {A : Type 0} (tags : List (Option A)) (i : ℕ) → bit_at (taken_bits tags) i ≡ bit_of (get_or tags i None)
bit_taken [] i = bit_at-zero i
bit_taken (None ∷ tags) zero = omega arith
bit_taken (Some here ∷ tags) zero = omega arith
bit_taken (None ∷ tags) (suc i) = even_at (taken_bits tags) i ∙ bit_taken tags i
bit_taken (Some here ∷ tags) (suc i) = odd_at (taken_bits tags) i ∙ bit_taken tags i

-- the same bits but for that of one tag
but_one : {A : Type 0} (n other k : ℕ) (tags : List (Option A)) (tag : Option A) → k < length tags
    → n ≡ taken_bits tags → bit_at other k ≡ bit_of tag
    → ((i : ℕ) → i ≢ k → bit_at other i ≡ bit_at n i) → other ≡ taken_bits (set tags k tag)
but_one n other k tags tag within is there kept = same_from_bits other (taken_bits (set tags k tag)) each
  where
    each : (i : ℕ) → bit_at other i ≡ bit_at (taken_bits (set tags k tag)) i
    each i =
        elim (cases_eq i k) [
          | inl same ↦
              rw same (there ∙ sym (bit_taken (set tags k tag) k ∙ ap bit_of (get_or-set_same tags k tag None within)))
          | inr apart ↦
              kept i apart ∙ ap (λ (m : ℕ). bit_at m i) is ∙ bit_taken tags i
              ∙ sym (bit_taken (set tags k tag) i
              ∙ ap bit_of (get_or-set_other tags k i tag None apart))
        ]

pub set_with : {A : Type 0} (n k : ℕ) (tags : List (Option A)) (here : A) → k < length tags → k < 64
    → n ≡ taken_bits tags → bit_or n (1 * 2 ^ k % 2 ^ 64) ≡ taken_bits (set tags k (Some here))
set_with n k tags here within small is =
    but_one n (bit_or n (1 * 2 ^ k % 2 ^ 64)) k tags (Some here) within is (bit_at_set_same w64 n k small)
    (λ i apart. bit_at_set_other w64 n k small i apart)

clear_other : (n k i : ℕ) → n < 2 ^ 64 → k < 64 → i ≢ k
    → bit_at (bit_and n (bit_not w64 (1 * 2 ^ k % 2 ^ 64))) i ≡ bit_at n i
clear_other n k i fits small other =
    elim (cases_lt i 64) [
      | inl low ↦ bit_at_clear_other w64 n k small i low other
      | inr high ↦
          let less = and_le_l n (bit_not w64 (1 * 2 ^ k % 2 ^ 64)) in
          bit_at_above (bit_and n (bit_not w64 (1 * 2 ^ k % 2 ^ 64))) 64 i (omega (arith, less)) (omega arith)
          ∙ sym (bit_at_above n 64 i fits (omega arith))
    ]

pub set_without : {A : Type 0} (n k : ℕ) (tags : List (Option A)) → n < 2 ^ 64 → k < length tags → k < 64
    → n ≡ taken_bits tags → bit_and n (bit_not w64 (1 * 2 ^ k % 2 ^ 64)) ≡ taken_bits (set tags k None)
set_without n k tags fits within small is =
    but_one n (bit_and n (bit_not w64 (1 * 2 ^ k % 2 ^ 64))) k tags None within is (bit_at_clear_same w64 n k small)
    (λ i apart. clear_other n k i fits small apart)

-- ---- all tags are free

pub freed_bits : {A : Type 0} (tags : List (Option A)) → 0 ≡ taken_bits (all_freed tags)
freed_bits [] = refl
freed_bits (tag ∷ tags) = ap (λ n. 2 * n) (freed_bits tags)

-- what is put in the place of all is all
pub spliced : {A : Type 0} (items arg new : List (Option A)) (n : ℕ) → new ≡ all_freed arg → length arg ≡ n
    → take n (new ++ drop (length new) items) ≡ new
spliced items arg new n is size =
    let len : length new ≡ n = ap (λ l. length l) is ∙ (length-map arg (λ tag. None) ∙ size) in
    ap (λ k. take k (new ++ drop (length new) items)) (sym len)
    ∙ take-append_seam new (drop (length new) items)

pub all_free : {A : Type 0} (items arg new : List (Option A)) (n : ℕ) → new ≡ all_freed arg → length arg ≡ n
    → n ≡ length items → length items ≤ 64
    → (length (take n (new ++ drop (length new) items)) ≤ 64)
    × (0 ≡ taken_bits (take n (new ++ drop (length new) items)))
all_free items arg new n is size whole few =
    let one = spliced items arg new n is size in
    let len : length new ≡ n = ap (λ l. length l) is ∙ (length-map arg (λ tag. None) ∙ size) in
    rw (one) (omega (arith, len, whole, few), freed_bits arg ∙ ap taken_bits (sym is))
