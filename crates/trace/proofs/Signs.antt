-- No field has a space in it, and no line a line feed: so cutting a text gives its lines, and cutting a
-- line its fields.
use Rattle.std.proofs.Common.{◌≡◌, ℕ, ◌<◌, ◌≤◌, ltb, Bool, true, false, List, [], ◌∷◌, ◌++◌, All, length, refl, sym, ap, ◌∙◌, arith}
use Rattle.std.specs.List.{AllByRecursion, slice_split, join_with_byte, flat_map, list_all}
use Rattle.std.proofs.lemmas.Bool.{and_parts, eq-eqb, ltb-true, ne_eqb}
use Rattle.std.proofs.lemmas.List.{append_assoc, append-nil}
use Rattle.std.proofs.lemmas.List.Concat.{flat_map-append}
use Rattle.std.proofs.lemmas.List.Elements.{All-from_recursion, recursion_from_All}
use Rattle.hex.specs.Hex.{encode_lower}
use Rattle.std.proofs.lemmas.List.Splits.{slice_split_at, slice_split_none, join_with_byte-slice_split}
use Rattle.trace.specs.declared.format.Format.{Format}
use Rattle.trace.specs.declared.format.Format.TheVariants.{Plain, Extended}
use Rattle.trace.specs.declared.format.Version.TheVariants.{One, Two}
use Rattle.trace.specs.Cuts.{fields_of, lines_of, is_line_feed}
use Rattle.hexadecimal.specs.Fields.{IsDigit}
use Rattle.hexadecimal.specs.Spelling.{num, fixed, bytes}
use Rattle.trace.specs.Text.{line, joined, ended, header}
use Rattle.trace.proofs.Cutting.{is_byte}
use Rattle.hexadecimal.proofs.ByteFields.{AreBytes, digits_encoded, is_bytes}
use Rattle.hexadecimal.proofs.Digits.{digit_above}
use Rattle.hexadecimal.proofs.Numbers.{AreDigits, are_digits_num, are_digits_fixed}

-- each byte is above b
abbrev pub Above : ℕ → List ℕ → Type 0
Above b = AllByRecursion (λ c. b < c)

pub above_append : (b : ℕ) (xs ys : List ℕ) → Above b xs → Above b ys → Above b (xs ++ ys)
above_append b [] ys hx hy = hy
above_append b (x ∷ xs) ys hx hy = (hx.0, above_append b xs ys hx.1 hy)

pub above_lower : (a b : ℕ) (xs : List ℕ) → a ≤ b → Above b xs → Above a xs
above_lower a b [] le h = tt
above_lower a b (x ∷ xs) le h = let first = h.0 in (omega arith, above_lower a b xs le h.1)

-- a literal is tested
abbrev pub all_above : ℕ → List ℕ → Bool
all_above b xs = list_all (ltb b) xs

pub above_tested : (b : ℕ) (xs : List ℕ) → all_above b xs ≡ true → Above b xs
above_tested b [] h = tt
above_tested b (x ∷ xs) h = let p = and_parts (ltb b x) (all_above b xs) h in
    (ltb-true b x p.0, above_tested b xs p.1)

pub above_digits : (xs : List ℕ) → AreDigits xs → Above 32 xs
above_digits [] h = tt
above_digits (x ∷ xs) h = let high = digit_above h.0.value h.0.small in let is = h.0.is in
    (omega arith, above_digits xs h.1)

pub above_num : (n : ℕ) → Above 32 (num n)
above_num n = above_digits (num n) (are_digits_num n)

pub above_fixed : (k n : ℕ) → Above 32 (fixed k n)
above_fixed k n = above_digits (fixed k n) (are_digits_fixed k n)

-- none of the bytes is this sign
abbrev pub Free : ℕ → List ℕ → Type 0
Free sign = AllByRecursion (λ c. is_byte sign c ≡ false)

differs : (b : ℕ) (xs : List ℕ) → Above b xs → Free b xs
differs b [] h = tt
differs b (x ∷ xs) h = let first = h.0 in (ne_eqb x b (λ e. omega arith), differs b xs h.1)

pub without : (b : ℕ) (xs : List ℕ) → Above b xs → All (λ c. is_byte b c ≡ false) xs
without b xs h = All-from_recursion (λ c. is_byte b c ≡ false) xs (differs b xs h)

-- no byte of a spelling is a sign that cuts a text
pub bytes_digits : (bs : List ℕ) → AreBytes bs → Above 32 (bytes bs)
unfolding bytes
bytes_digits [] h = above_tested 32 (45 ∷ []) refl
bytes_digits (b ∷ bs) h =
    above_digits (encode_lower (b ∷ bs))
    (recursion_from_All IsDigit (encode_lower (b ∷ bs)) (digits_encoded (b ∷ bs) (is_bytes (b ∷ bs) h)))

-- ---- fields

abbrev pub AllAbove : ℕ → List (List ℕ) → Type 0
AllAbove b = AllByRecursion (Above b)

-- pieces that are joined by a sign are cut at it again
pub split_join : (sign : ℕ) (f : List ℕ) (fs : List (List ℕ)) → AllByRecursion (Free sign) (f ∷ fs)
    → slice_split (is_byte sign) (join_with_byte sign (f ∷ fs)) ≡ f ∷ fs
split_join sign f [] h =
    slice_split_none (is_byte sign) f (All-from_recursion (λ c. is_byte sign c ≡ false) f h.0)
split_join sign f (g ∷ fs) h =
    slice_split_at (is_byte sign) f sign (join_with_byte sign (g ∷ fs))
    (All-from_recursion (λ c. is_byte sign c ≡ false) f h.0) (eq-eqb sign sign refl)
    ∙ ap (λ (xs : List (List ℕ)). f ∷ xs) (split_join sign g fs h.1)

all_differ : (b : ℕ) (fs : List (List ℕ)) → AllAbove b fs → AllByRecursion (Free b) fs
all_differ b [] h = tt
all_differ b (f ∷ fs) h = (differs b f h.0, all_differ b fs h.1)

-- the fields of a line that is made of fields
pub fields_of-line : (f : List ℕ) (fs : List (List ℕ)) → AllAbove 32 (f ∷ fs)
    → fields_of (line (f ∷ fs)) ≡ f ∷ fs
unfolding fields_of
fields_of-line f fs h = split_join 32 f fs (all_differ 32 (f ∷ fs) h)

-- a line is made of its fields
pub line-fields_of : (l : List ℕ) (fs : List (List ℕ)) → fields_of l ≡ fs → l ≡ line fs
unfolding fields_of
line-fields_of l fs e = sym (join_with_byte-slice_split 32 l) ∙ ap (join_with_byte 32) e

pub above_line : (f : List ℕ) (fs : List (List ℕ)) → AllAbove 32 (f ∷ fs) → Above 10 (line (f ∷ fs))
above_line f [] h = above_lower 10 32 f (omega arith) h.0
above_line f (g ∷ fs) h =
    above_append 10 f (32 ∷ line (g ∷ fs)) (above_lower 10 32 f (omega arith) h.0)
    (omega arith, above_line g fs h.1)

-- ---- lines

pub above_header : (format : Format) → Above 10 (header format)
above_header (Plain One) = above_tested 10 (header (Plain One)) refl
above_header (Plain Two) = above_tested 10 (header (Plain Two)) refl
above_header Extended = above_tested 10 (header Extended) refl

pub long_header : (format : Format) → 9 ≤ length (header format)
long_header (Plain One) = omega arith
long_header (Plain Two) = omega arith
long_header Extended = omega arith

pub lines_of-joined : (ls : List (List ℕ)) (rest : List ℕ) → AllAbove 10 ls
    → lines_of (joined ls ++ rest) ≡ ls ++ lines_of rest
unfolding lines_of joined
lines_of-joined [] rest h = refl
lines_of-joined (l ∷ ls) rest h =
    let regrouped : flat_map ended (l ∷ ls) ++ rest ≡ l ++ 10 ∷ (flat_map ended ls ++ rest) =
    append_assoc (l ++ 10 ∷ []) (flat_map ended ls) rest
    ∙ append_assoc l (10 ∷ []) (flat_map ended ls ++ rest) in
    ap (slice_split is_line_feed) regrouped
    ∙ slice_split_at is_line_feed l 10 (flat_map ended ls ++ rest) (without 10 l h.0) refl
    ∙ ap (λ (xs : List (List ℕ)). l ∷ xs) (lines_of-joined ls rest h.1)

-- a text is cut behind a line without a line feed
pub lines_of-line : (l after : List ℕ) → Above 10 l → lines_of (l ++ 10 ∷ after) ≡ l ∷ lines_of after
unfolding lines_of
lines_of-line l after h = slice_split_at is_line_feed l 10 after (without 10 l h) refl

pub joined_push : (ls : List (List ℕ)) (l : List ℕ) → joined (ls ++ l ∷ []) ≡ joined ls ++ ended l
unfolding joined
joined_push ls l = flat_map-append ended ls (l ∷ [])
    ∙ ap (λ (xs : List ℕ). flat_map ended ls ++ xs) (append-nil (ended l))
