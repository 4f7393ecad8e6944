-- How a text is cut at its first line feed, and a line at its first space.
use Rattle.std.proofs.Common.{◌≡◌, ℕ, ◌+◌, ◌<◌, ◌≤◌, Bool, false, eqb, List, [], ◌∷◌, ◌++◌, All, length, get_or, take, drop, sym, ap, ◌∙◌, arith}
use Rattle.std.proofs.lemmas.Bool.{eq-eqb, eqb-true, ne_eqb}
use Rattle.std.proofs.lemmas.List.{take-append-drop, drop_more, get_or-take, length-take}
use Rattle.std.proofs.lemmas.List.Elements.{All-from_get_or}
use Rattle.std.proofs.lemmas.List.Splits.{slice_split_at, slice_split_none, length-slice_split}
use Rattle.std.specs.List.{slice_split}
use Rattle.memchr.specs.Find.{NoneBefore, Nowhere, Passes, is_byte as is_one}
use Rattle.trace.specs.Cuts.{fields_of, is_space}

-- the test for a byte
abbrev pub is_byte : ℕ → ℕ → Bool
is_byte b c = eqb c b

none_before : (b : ℕ) (xs : List ℕ) (i : ℕ) → i ≤ length xs → ((k : ℕ) → k < i → get_or xs k 0 ≡ b → ⊥)
    → All (λ c. is_byte b c ≡ false) (take i xs)
none_before b xs i le none =
    All-from_get_or (λ c. is_byte b c ≡ false) (take i xs) 0 (λ k h.
    let below : k < i = omega (arith, length-take i xs) in
    ne_eqb (get_or (take i xs) k 0) b (λ e. none k below (sym (get_or-take i xs k 0 below) ∙ e)))

-- a list around its element i
pub around : (xs : List ℕ) (i : ℕ) → i < length xs → xs ≡ take i xs ++ get_or xs i 0 ∷ drop (i + 1) xs
around xs i lt = sym (take-append-drop i xs) ∙ ap (λ (ys : List ℕ). take i xs ++ ys) (drop_more xs i 0 lt)

pub cut_at : (b : ℕ) (xs : List ℕ) (i : ℕ) → i < length xs → ((k : ℕ) → k < i → get_or xs k 0 ≡ b → ⊥)
    → get_or xs i 0 ≡ b → slice_split (is_byte b) xs ≡ take i xs ∷ slice_split (is_byte b) (drop (i + 1) xs)
cut_at b xs i lt none is =
    ap (slice_split (is_byte b)) (around xs i lt)
    ∙ slice_split_at (is_byte b) (take i xs) (get_or xs i 0) (drop (i + 1) xs)
    (none_before b xs i (omega arith) none) (eq-eqb (get_or xs i 0) b is)

pub cut_none : (b : ℕ) (xs : List ℕ) (i : ℕ) → length xs ≤ i → ((k : ℕ) → k < i → get_or xs k 0 ≡ b → ⊥)
    → slice_split (is_byte b) xs ≡ xs ∷ []
cut_none b xs i le none =
    slice_split_none (is_byte b) xs
    (All-from_get_or (λ c. is_byte b c ≡ false) xs 0 (λ k h. ne_eqb (get_or xs k 0) b (none k (omega arith))))

pub some_fields : (line : List ℕ) → 0 < length (fields_of line)
unfolding fields_of
some_fields line = omega (arith, length-slice_split is_space line)

-- what a search for a byte found
pub none_of : (b : ℕ) (xs : List ℕ) (i : ℕ) → Nowhere (Passes (is_one b) xs) 0 i → (k : ℕ) → k < i
    → get_or xs k 0 ≡ b → ⊥
none_of b xs i none k lt e = none k (omega arith) lt (eq-eqb (get_or xs k 0) b e)

pub cut_found : (b : ℕ) (xs : List ℕ) (i : ℕ) → NoneBefore (Passes (is_one b) xs) 0 (length xs) i
    × Passes (is_one b) xs i → slice_split (is_byte b) xs ≡ take i xs
    ∷ slice_split (is_byte b) (drop (i + 1) xs)
cut_found b xs i h = let high = h.0.high in
    cut_at b xs i high (none_of b xs i h.0.before) (eqb-true (get_or xs i 0) b h.1)

pub cut_unfound : (b : ℕ) (xs : List ℕ) → Nowhere (Passes (is_one b) xs) 0 (length xs)
    → slice_split (is_byte b) xs ≡ xs ∷ []
cut_unfound b xs none = cut_none b xs (length xs) (omega arith) (none_of b xs (length xs) none)
