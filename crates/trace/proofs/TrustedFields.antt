-- The fields of lines that were validated, byte by byte: where each ends, and which digits it has.
use Rattle.std.proofs.Common.{◌≡◌, ◌≢◌, ℕ, ◌+◌, ◌*◌, ◌/◌, ◌%◌, ◌<◌, ◌≤◌, ◌⊎◌, inl, inr, List, [], ◌∷◌, ◌++◌, length, get_or, take, drop, refl, sym, ap, subst, ◌∙◌, append_assoc, arith}
use Rattle.std.specs.List.{slice_split}
use Rattle.std.proofs.Math.Seq.{drop-append_seam, take-append_seam}
use Rattle.std.proofs.lemmas.Bool.{cases_lt}
use Rattle.std.proofs.lemmas.List.{append_cancel_left, drop-drop, length-append}
use Rattle.std.proofs.lemmas.List.Splits.{slice_split_at}
use Rattle.board.specs.declared.event.SlotWindow.{SlotWindow}
use Rattle.board.specs.declared.event.SlotWindow.TheVariants.{Block, Console}
use Rattle.hexadecimal.specs.Fields.{IsDigit, IsFixed, IsValue, SpellsFixed}
use Rattle.hexadecimal.specs.Spelling.{bytes, digit, fixed, num}
use Rattle.hexadecimal.proofs.Digits.{digit_cases, same_digit}
use Rattle.hexadecimal.proofs.Numbers.{length_fixed, num_digit, num_split, same_num}
use Rattle.trace.specs.Cuts.{is_space, lines_of}
use Rattle.trace.specs.Events.{BeginsWithSlot, HasAccess, HasBytes, HasSlot, HasValue}
use Rattle.trace.specs.Spelling.{window}
use Rattle.trace.specs.Words.{IsWidth}
use Rattle.trace.proofs.Sofar.{some_lines}
use Rattle.trace.proofs.Signs.{Above, above_lower, above_num, bytes_digits, lines_of-line, without}

-- ---- what stands before a space or a line feed

cut_at_space : (f after : List ℕ) → Above 32 f → slice_split is_space (f ++ 32 ∷ after)
    ≡ f ∷ slice_split is_space after
cut_at_space f after h = slice_split_at is_space f 32 after (without 32 f h) refl

-- it is one number
pub one_number : (text : List ℕ) (m n : ℕ) (xs ys : List ℕ) → text ≡ num m ++ 32 ∷ xs
    → text ≡ num n ++ 32 ∷ ys → (m ≡ n) × (xs ≡ ys)
one_number text m n xs ys e f =
    let same : num m ∷ slice_split is_space xs ≡ num n ∷ slice_split is_space ys =
    sym (cut_at_space (num m) xs (above_num m)) ∙ ap (slice_split is_space) (sym e ∙ f)
    ∙ cut_at_space (num n) ys (above_num n) in
    let first : num m ≡ num n = ap (λ (ls : List (List ℕ)). get_or ls 0 []) same in
    let whole : num m ++ 32 ∷ xs ≡ num m ++ 32 ∷ ys = sym e ∙ f
    ∙ ap (λ (zs : List ℕ). zs ++ 32 ∷ ys) (sym first) in
    (same_num m n first, ap (drop 1) (append_cancel_left (num m) (32 ∷ xs) (32 ∷ ys) whole))

-- a field of bytes has no line feed
no_line_feed : {text field after : List ℕ} → HasBytes text field after → Above 10 field
no_line_feed h =
    subst (Above 10) (sym h.says.spelled)
    (above_lower 10 32 (bytes h.bs) (omega arith) (bytes_digits h.bs h.says.fits))

-- it is one
pub one_field : (text field after g b : List ℕ) → HasBytes text field after → text ≡ g ++ 10 ∷ b
    → lines_of text ≡ g ∷ lines_of b → (g ≡ field) × (b ≡ after)
one_field text field after g b h e cut =
    let same : g ∷ lines_of b ≡ field ∷ lines_of after =
    sym cut ∙ ap lines_of h.is ∙ lines_of-line field after (no_line_feed h) in
    let first : g ≡ field = ap (λ (ls : List (List ℕ)). get_or ls 0 []) same in
    let whole : field ++ 10 ∷ b ≡ field ++ 10 ∷ after = ap (λ (zs : List ℕ). zs ++ 10 ∷ b) (sym first)
    ∙ sym e ∙ h.is in
    (first, ap (drop 1) (append_cancel_left field (10 ∷ b) (10 ∷ after) whole))

-- and the text has more than one line
pub not_last : (text field after : List ℕ) → HasBytes text field after → lines_of text ≡ text ∷ [] → ⊥
not_last text field after h last =
    let more = some_lines after in
    omega (arith, ap length (sym last ∙ ap lines_of h.is ∙ lines_of-line field after (no_line_feed h)))

-- ---- a register

abbrev window_byte : SlotWindow → ℕ
window_byte Block = 98
window_byte Console = 99

-- where a register stands
module _ {text : List ℕ} {kind : SlotWindow} {offset width : ℕ} {after : List ℕ}
    (h : HasAccess text kind offset width after) where
  access_bytes : text
      ≡ window_byte kind ∷ 32 ∷ digit (offset / 16 / 16 % 16) ∷ digit (offset / 16 % 16)
      ∷ digit (offset % 16) ∷ 32 ∷ (48 + width) ∷ after
  unfolding fixed
  access_bytes = h.is ∙ ap (λ (xs : List ℕ). xs ++ 32 ∷ (fixed 3 offset ++ 32 ∷ (48 + width) ∷ after)) (named kind)
    where
      named : (of : SlotWindow) → window of ≡ window_byte of ∷ []
      named Block = refl
      named Console = refl

  pub access_long : 7 + length after ≡ length text
  access_long = omega (arith, ap length access_bytes)

  digit_there : (i d : ℕ) → d < 16 → get_or text i 0 ≡ digit d → IsDigit (get_or text i 0)
  digit_there i d lt is = record { value = d; small = lt; is = is }

  pub offset_digits : IsDigit (get_or text 2 0) × (IsDigit (get_or text 3 0) × IsDigit (get_or text 4 0))
  offset_digits = (
    digit_there 2 (offset / 16 / 16 % 16) (omega arith) (ap (λ (xs : List ℕ). get_or xs 2 0) access_bytes),
    (
      digit_there 3 (offset / 16 % 16) (omega arith) (ap (λ (xs : List ℕ). get_or xs 3 0) access_bytes),
      digit_there 4 (offset % 16) (omega arith) (ap (λ (xs : List ℕ). get_or xs 4 0) access_bytes),
    ),
  )

  digit_is : (i d v : ℕ) → d < 16 → get_or text i 0 ≡ digit d → IsValue (get_or text i 0) v → v ≡ d
  digit_is i d v lt is value = same_digit v d value.small lt (value.is ∙ is)

  pub offset_is : (a b c : ℕ) → IsValue (get_or text 2 0) a → IsValue (get_or text 3 0) b
      → IsValue (get_or text 4 0) c → (a * 16 + b) * 16 + c ≡ offset
  offset_is a b c va vb vc =
      let small = h.three_digits in
      let x = digit_is 2 (offset / 16 / 16 % 16) a (omega arith)
      (ap (λ (xs : List ℕ). get_or xs 2 0) access_bytes) va in
      let y = digit_is 3 (offset / 16 % 16) b (omega arith)
      (ap (λ (xs : List ℕ). get_or xs 3 0) access_bytes) vb in
      let z = digit_is 4 (offset % 16) c (omega arith) (ap (λ (xs : List ℕ). get_or xs 4 0) access_bytes) vc in
      omega (arith, x, y, z)

  pub width_is : get_or text 6 0 ≡ 48 + width
  width_is = ap (λ (xs : List ℕ). get_or xs 6 0) access_bytes

  -- its window is named by its byte
  pub window_found : (found : SlotWindow) → (get_or text 0 0 ≡ 98 → found ≡ Block)
      → (get_or text 0 0 ≢ 98 → found ≡ Console) → found ≡ kind
  window_found found block console = of_kind kind (ap (λ (xs : List ℕ). get_or xs 0 0) access_bytes)
    where
      of_kind : (of : SlotWindow) → get_or text 0 0 ≡ window_byte of → found ≡ of
      of_kind Block e = block e
      of_kind Console e = console (λ x. omega (arith, e, x))

pub access_past : {text : List ℕ} {kind : SlotWindow} {offset width c : ℕ} {after : List ℕ}
    → HasAccess text kind offset width (c ∷ after) → drop 8 text ≡ after
access_past h = ap (drop 8) (access_bytes h)

-- ---- a slot

-- a slot has one digit or two
pub slot_digits : (text : List ℕ) (slot : ℕ) (after : List ℕ) → HasSlot text slot after
    → ((slot < 16) × (text ≡ digit slot ∷ 32 ∷ after))
    ⊎ ((16 ≤ slot) × (text ≡ digit (slot / 16) ∷ digit (slot % 16) ∷ 32 ∷ after))
slot_digits text slot after h =
    let small = h.small in
    elim (cases_lt slot 16) [
      | inl low ↦ inl (low, h.is ∙ ap (λ (xs : List ℕ). xs ++ 32 ∷ after) (num_digit slot low))
      | inr high ↦
          inr (
            high,
            h.is ∙ ap (λ (xs : List ℕ). xs ++ 32 ∷ after) (num_split slot high)
                ∙ ap (λ (xs : List ℕ). (xs ++ digit (slot % 16) ∷ []) ++ 32 ∷ after)
                (num_digit (slot / 16) (omega arith)),
          )
    ]

-- a slot begins with a digit, and where no space follows that it has another, and is no smaller than 16
pub record SlotBytes (text : List ℕ) : Type 0 where
  pub long : 2 ≤ length text
  pub first : IsDigit (get_or text 0 0)

pub record TwoBytes (text : List ℕ) : Type 0 where
  pub long : 3 ≤ length text
  pub other : get_or text 0 0 ≢ 48
  pub second : IsDigit (get_or text 1 0)
  pub space : get_or text 2 0 ≡ 32

a_digit : (d : ℕ) → d < 16 → IsDigit (digit d)
a_digit d lt = record { value = d; small = lt; is = refl }

pub slot_bytes : (text : List ℕ) → BeginsWithSlot text → SlotBytes text
slot_bytes text b =
    let small = b.has.small in
    elim (slot_digits text b.slot b.after b.has) [
      | inl one ↦ rw one.1 (record { long = omega arith; first = a_digit b.slot one.0 })
      | inr two ↦ rw two.1 (record { long = omega arith; first = a_digit (b.slot / 16) (omega arith) })
    ]

above_zero : (d : ℕ) → d < 16 → 0 < d → digit d ≢ 48
above_zero d lt pos e =
    elim (digit_cases d lt) [ inl low ↦ omega (arith, low, e) | inr high ↦ omega (arith, high, e) ]

pub two_bytes : (text : List ℕ) → BeginsWithSlot text → get_or text 1 0 ≢ 32 → TwoBytes text
two_bytes text b more =
    let small = b.has.small in
    elim (slot_digits text b.slot b.after b.has) [
      | inl one ↦ absurd (more (ap (λ (xs : List ℕ). get_or xs 1 0) one.1))
      | inr two ↦
          let high = two.0 in
          rw two.1 (record {
            long = omega arith;
            other = above_zero (b.slot / 16) (omega arith) (omega arith);
            second = a_digit (b.slot % 16) (omega arith);
            space = refl;
          })
    ]

-- ---- a value

pub other_width : (width : ℕ) → IsWidth width → width ≢ 4 → width ≢ 2 → width ≡ 1
other_width width (inl one) four two = one
other_width width (inr (inl e)) four two = absurd (two e)
other_width width (inr (inr e)) four two = absurd (four e)

-- the digits of a value
pub value_field : (text : List ℕ) (width value : ℕ) (after : List ℕ) (k : ℕ) → HasValue text width value after
    → k ≡ 2 * width → IsFixed k (take k text) value
value_field text width value after k h is =
    let len = length_fixed (2 * width) value in
    let digits : take (length (fixed (2 * width) value)) text ≡ fixed (2 * width) value =
    ap (take (length (fixed (2 * width) value))) h.is
    ∙ take-append_seam (fixed (2 * width) value) (10 ∷ after) in
    rw is (record {
      fits = h.small;
      spelled = ap (λ (n : ℕ). take n text) (sym len) ∙ digits;
    })

pub value_spelled : (text : List ℕ) (width value : ℕ) (after : List ℕ) (k : ℕ)
    → HasValue text width value after → k ≡ 2 * width → k ≤ 8 → SpellsFixed (take k text)
value_spelled text width value after k h is few =
    record { digits = k; few = few; n = value; is = value_field text width value after k h is }

pub value_long : (text : List ℕ) (width value : ℕ) (after : List ℕ) → HasValue text width value after
    → 2 * width + 1 ≤ length text
value_long text width value after h = omega (
  arith,
  ap length h.is,
  length-append (fixed (2 * width) value) (10 ∷ after),
  length_fixed (2 * width) value,
)

pub value_after : (text : List ℕ) (width value : ℕ) (after : List ℕ) → HasValue text width value after
    → drop (2 * width + 1) text ≡ after
value_after text width value after h =
    let len = length_fixed (2 * width) value in
    let whole : text ≡ (fixed (2 * width) value ++ 10 ∷ []) ++ after =
    h.is ∙ sym (append_assoc (fixed (2 * width) value) (10 ∷ []) after) in
    let long : length (fixed (2 * width) value ++ 10 ∷ []) ≡ 2 * width + 1 =
    omega (arith, length-append (fixed (2 * width) value) (10 ∷ []), len) in
    ap (λ (n : ℕ). drop n text) (sym long) ∙ ap (drop (length (fixed (2 * width) value ++ 10 ∷ []))) whole
    ∙ drop-append_seam (fixed (2 * width) value ++ 10 ∷ []) after

-- what follows a value that stands in the ninth column
pub behind_value : (xs : List ℕ) (width value : ℕ) (after : List ℕ) → HasValue (drop 8 xs) width value after
    → drop (9 + 2 * width) xs ≡ after
behind_value xs width value after h =
    let sum : 9 + 2 * width ≡ 8 + (2 * width + 1) = omega arith in
    ap (λ (n : ℕ). drop n xs) sum ∙ sym (drop-drop (2 * width + 1) 8 xs) ∙ value_after (drop 8 xs) width value
    after h
