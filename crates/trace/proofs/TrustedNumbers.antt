-- A number in a line that was validated, read digit by digit.
use Rattle.std.proofs.Common.{◌≡◌, ◌≢◌, ℕ, ◌+◌, ◌*◌, ◌^◌, ◌<◌, ◌≤◌, inl, inr, List, ◌∷◌, ◌++◌, length, get_or, drop, refl, sym, ap, subst, ◌∙◌, arith}
use Rattle.std.proofs.Math.Seq.{drop-append-add, get_or-append_seam}
use Rattle.std.proofs.lemmas.Bool.{cases_eq, cases_lt}
use Rattle.std.proofs.lemmas.List.{get_or_append_left, take_all}
use Rattle.hexadecimal.specs.Fields.{IsDigit, IsValue}
use Rattle.hexadecimal.specs.Spelling.{num}
use Rattle.hexadecimal.proofs.Digits.{digit_above}
use Rattle.hexadecimal.proofs.Numbers.{Reads, are_digits_num, digit_at, length_num, length_num_above, no_number_zero, reads_more, room}
use Rattle.trace.specs.Events.{BeginsWithNumber, HasNumber}

-- the first i bytes of a text are the first digits of its number, and say n
pub record NumberSoFar (text : List ℕ) (i n : ℕ) : Type 0 where
  pub total : ℕ
  pub after : List ℕ
  pub has : HasNumber text total after
  pub within : i ≤ length (num total)
  pub reads : Reads (num total) i n

pub number_begun : (text : List ℕ) → BeginsWithNumber text → NumberSoFar text 0 0
number_begun text b = record {
  total = b.n;
  after = b.after;
  has = b.has;
  within = omega arith;
  reads = record { start = λ _. refl; spelled = λ pos. absurd (omega arith); below = omega arith };
}

module _ (text : List ℕ) (i n : ℕ) (so : NumberSoFar text i n) where
  few : length (num so.total) ≤ 16
  few = let small = so.has.small in length_num 16 so.total (omega arith) (omega arith)

  -- a byte that is no space is a digit more
  more : get_or text i 0 ≢ 32 → i < length (num so.total)
  more other =
      let within = so.within in
      elim (cases_lt i (length (num so.total))) [
        | inl lt ↦ lt
        | inr le ↦
            let here : i ≡ length (num so.total) = omega arith in
            absurd (other (ap (λ (k : ℕ). get_or text k 0) here
            ∙ ap (λ (xs : List ℕ). get_or xs (length (num so.total)) 0) so.has.is
            ∙ get_or-append_seam (num so.total) 32 so.after 0))
      ]

  same_byte : get_or text i 0 ≢ 32 → get_or text i 0 ≡ get_or (num so.total) i 0
  same_byte other = ap (λ (xs : List ℕ). get_or xs i 0) so.has.is
      ∙ get_or_append_left (num so.total) (32 ∷ so.after) 0 i (more other)

  pub number_digit : get_or text i 0 ≢ 32 → IsDigit (get_or text i 0)
  number_digit other = subst IsDigit (sym (same_byte other))
      (digit_at (num so.total) i (are_digits_num so.total) (more other))

  pub number_room : get_or text i 0 ≢ 32 → n * 16 + 15 < 16 ^ 16
  number_room other = let lt = more other in
      let le = few in room (num so.total) i n 16 so.reads.below (omega arith)

  not_leading : 0 < i → i < length (num so.total) → 0 < n
  not_leading pos lt =
      elim (cases_eq n 0) [
        | inl z ↦ absurd (no_number_zero (num so.total) i n so.total so.reads z pos lt refl)
        | inr ne ↦ omega arith
      ]

  pub number_more : (d : ℕ) → get_or text i 0 ≢ 32 → IsValue (get_or text i 0) d
      → NumberSoFar text (i + 1) (n * 16 + d)
  number_more d other value =
      let lt = more other in
      record {
        total = so.total;
        after = so.after;
        has = so.has;
        within = omega arith;
        reads = reads_more (num so.total) i n d (get_or text i 0) so.reads lt (same_byte other) value.small
            value.is (λ pos. not_leading pos lt);
      }

  -- at a space all digits are read
  pub number_whole : get_or text i 0 ≡ 32 → text ≡ num n ++ 32 ∷ drop (i + 1) text
  number_whole space =
      let within = so.within in
      let end : i ≡ length (num so.total) =
      elim (cases_lt i (length (num so.total))) [
        | inl lt ↦
            let d = digit_at (num so.total) i (are_digits_num so.total) lt in
            let is = d.is in
            let same = ap (λ (xs : List ℕ). get_or xs i 0) so.has.is
            ∙ get_or_append_left (num so.total) (32 ∷ so.after) 0 i lt in
            let high = digit_above d.value d.small in
            absurd (omega (arith, same, space, is, high))
        | inr le ↦ omega arith
      ]
      in
      let pos : 0 < i = omega (arith, length_num_above so.total) in
      let same : num so.total ≡ num n =
      sym (take_all i (num so.total) (omega arith)) ∙ so.reads.spelled pos in
      let after : drop (i + 1) text ≡ so.after =
      ap (λ (k : ℕ). drop (k + 1) text) end ∙ ap (drop (length (num so.total) + 1)) so.has.is
      ∙ drop-append-add (num so.total) (32 ∷ so.after) 1 in
      so.has.is ∙ ap (λ (xs : List ℕ). xs ++ 32 ∷ so.after) same
      ∙ ap (λ (xs : List ℕ). num n ++ 32 ∷ xs) (sym after)
