-- The pool as a range of places: what is taken from its front, what is left, and what comes behind it.
use Rattle.std.proofs.Common.{◌≡◌, ℕ, ◌+◌, ◌-◌, ◌≤◌, List, ◌++◌, length, take, drop, slice_range, sym, ap, ◌∙◌, arith}
use Rattle.std.proofs.lemmas.List.{drop-drop, drop-take, length-take-le, length-drop}
use Rattle.std.proofs.lemmas.List.Edits.{take-paste}
use Rattle.std.proofs.lemmas.Slice.{between_from_start, take-put_mid}
use lib.Seq.{paste}
use borrow.Rule.Slice.PartMut.{put_mid}

module _ (xs : List ℕ) (start end : ℕ) (ordered : start ≤ end) (within : end ≤ length xs) where
  pub size : length (slice_range xs start end) ≡ end - start
  size = length-take-le (end - start) (drop start xs) (let d = length-drop start xs in omega (arith, d, within))

  -- what stands behind the first bytes
  pub behind : (count : ℕ) → start + count ≤ end
      → slice_range xs (start + count) end ≡ drop count (slice_range xs start end)
  behind count few =
      let parts : end - start ≡ count + (end - (start + count)) = omega (arith, few) in
      sym (ap (λ k. drop count (take k (drop start xs))) parts
      ∙ drop-take count (end - (start + count)) (drop start xs)
      ∙ ap (take (end - (start + count))) (drop-drop count start xs))

  -- the range is moved to the front, and more bytes are put behind it
  pub put_behind : (moved more : List ℕ) (k n : ℕ) → length moved ≡ length xs
      → moved ≡ paste xs 0 (drop start xs) (end - start) → n ≡ end - start + length more
      → slice_range (put_mid (end - start) k moved more) 0 n ≡ slice_range xs start end ++ more
  put_behind moved more k n long is total =
      let whole : 0 + (end - start) ≡ end - start = omega arith in
      between_from_start (put_mid (end - start) k moved more) n
      ∙ take-put_mid (end - start) k moved more n total (omega (arith, long, within))
      ∙ ap (λ l. l ++ more) (ap (take (end - start)) is
      ∙ ap (λ j. take j (paste xs 0 (drop start xs) (end - start))) (sym whole)
      ∙ take-paste xs 0 (drop start xs) (end - start) (omega arith) (let d = length-drop start xs in omega (arith, d, within)))
