-- A number, a slot and digits at the front of a line.
use Rattle.std.proofs.Common.{◌≡◌, ◌≢◌, ℕ, zero, suc, ◌+◌, ◌-◌, ◌*◌, ◌%◌, ◌<◌, ◌≤◌, List, [], ◌∷◌, ◌++◌, All, length, length-take, get_or, take, drop, refl, sym, ap, subst, ◌∙◌, arith}
use Rattle.std.proofs.lemmas.List.{append_assoc, take_all}
use Rattle.hexadecimal.specs.Fields.{IsDigit, SpellsBytes}
use Rattle.hexadecimal.proofs.ByteFields.{pairs_say}
use Rattle.hexadecimal.proofs.Numbers.{num_digit, num_push}
use Rattle.hexadecimal.specs.Spelling.{digit, num}
use Rattle.hexadecimal.proofs.Numbers.{Reads}
use Rattle.trace.proofs.Cutting.{around}

-- a number at the front of a line, up to a space
pub number_taken : (line : List ℕ) (i n : ℕ) → Reads line i n → 0 < i → i < length line → get_or line i 0 ≡ 32
    → line ≡ num n ++ 32 ∷ drop (i + 1) line
number_taken line i n r pos lt space =
    around line i lt
    ∙ ap (λ (xs : List ℕ). xs ++ get_or line i 0 ∷ drop (i + 1) line) (r.spelled pos)
    ∙ ap (λ (c : ℕ). num n ++ c ∷ drop (i + 1) line) space

-- a number of one digit, and one of two
pub one_digit : (d a : ℕ) (xs : List ℕ) → d < 16 → digit d ≡ a → a ∷ xs ≡ num d ++ xs
one_digit d a xs lt is = ap (λ (c : ℕ). c ∷ xs) (sym is)
    ∙ ap (λ (ys : List ℕ). ys ++ xs) (sym (num_digit d lt))

pub not_zero : (d a : ℕ) → digit d ≡ a → a ≢ 48 → 0 < d
unfolding digit
not_zero zero a is other = absurd (other (sym is))
not_zero (suc d) a is other = omega arith

-- a number whose first digit isn't 0 is none, whichever digits follow
pub stays_positive : (i n d : ℕ) → (0 < i → 0 < n) → (i ≡ 0 → 0 < d) → 0 < n * 16 + d
stays_positive zero n d before first = let pos = first refl in omega arith
stays_positive (suc i) n d before first = let pos = before (omega arith) in omega arith

pub two_digits : (h l a b : ℕ) (xs : List ℕ) → h < 16 → l < 16 → digit h ≡ a → digit l ≡ b → a ≢ 48
    → a ∷ b ∷ xs ≡ num (h * 16 + l) ++ xs
two_digits h l a b xs high low first second other =
    one_digit h a (b ∷ xs) high first
    ∙ ap (λ (c : ℕ). num h ++ c ∷ xs) (sym second)
    ∙ sym (append_assoc (num h) (digit l ∷ []) xs)
    ∙ ap (λ (ys : List ℕ). ys ++ xs) (sym (num_push h l (not_zero h a first other) low))

-- a slot of one digit at the front of a line, and one of two
pub slot_one : (line : List ℕ) (d : ℕ) → 2 ≤ length line → get_or line 1 0 ≡ 32 → d < 16
    → digit d ≡ get_or line 0 0 → line ≡ num d ++ 32 ∷ take (length line - 2) (drop 2 line)
slot_one [] d some space lt is = absurd (omega arith)
slot_one (a ∷ []) d some space lt is = absurd (omega arith)
slot_one (a ∷ b ∷ xs) d some space lt is =
    let whole : take (length (a ∷ b ∷ xs) - 2) xs ≡ xs =
    take_all (length (a ∷ b ∷ xs) - 2) xs (omega arith) in
    one_digit d a (b ∷ xs) lt is ∙ ap (λ (c : ℕ). num d ++ c ∷ xs) space
    ∙ ap (λ (ys : List ℕ). num d ++ 32 ∷ ys) (sym whole)

pub slot_two : (line : List ℕ) (h l : ℕ) → 3 ≤ length line → get_or line 2 0 ≡ 32 → h < 16 → l < 16
    → digit h ≡ get_or line 0 0 → digit l ≡ get_or line 1 0
    → get_or line 0 0 ≢ 48 → line ≡ num (h * 16 + l) ++ 32 ∷ take (length line - 3) (drop 3 line)
slot_two [] h l some space high low first second other = absurd (omega arith)
slot_two (a ∷ []) h l some space high low first second other = absurd (omega arith)
slot_two (a ∷ b ∷ []) h l some space high low first second other = absurd (omega arith)
slot_two (a ∷ b ∷ c ∷ xs) h l some space high low first second other =
    let whole : take (length (a ∷ b ∷ c ∷ xs) - 3) xs ≡ xs =
    take_all (length (a ∷ b ∷ c ∷ xs) - 3) xs (omega arith) in
    two_digits h l a b (c ∷ xs) high low first second other ∙ ap (λ (x : ℕ). num (h * 16 + l) ++ x ∷ xs) space
    ∙ ap (λ (ys : List ℕ). num (h * 16 + l) ++ 32 ∷ ys) (sym whole)

-- digits, two and two, spell bytes
pub pairs_spell : (text front : List ℕ) (len : ℕ) → front ≡ take len text → len ≤ length text
    → All IsDigit (take len text) → 0 < len → len % 2 ≡ 0
    → SpellsBytes front
pairs_spell text front len is within digits some even =
    let size : length front ≡ len = omega (arith, ap length is, length-take len text) in
    pairs_say front (record {
      some = omega (arith, size);
      even = ap (λ (n : ℕ). n % 2) size ∙ even;
      digits = subst (All IsDigit) (sym is) digits;
    })
