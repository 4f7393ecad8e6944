-- Bytes that stand in a row, behind those that were taken.
use Rattle.std.proofs.Common.{◌≡◌, ℕ, ◌+◌, ◌≤◌, arith, List, [], ◌++◌, length, drop, ◌∙◌}
use Rattle.std.proofs.lemmas.List.{drop-drop, drop-append-le, drop_all}

-- more bytes behind come last
pub behind : (row part : List ℕ) (start : ℕ) → start ≤ length row → drop start (row ++ part) ≡ drop start row ++ part
behind row part start h = drop-append-le start row part h

-- more are taken
pub taken : (row : List ℕ) (start count : ℕ) → drop count (drop start row) ≡ drop (start + count) row
taken row start count = drop-drop count start row

-- all are taken
pub all_taken : (row : List ℕ) (start count : ℕ) → start + count ≡ length row → drop count (drop start row) ≡ []
all_taken row start count e = drop-drop count start row ∙ drop_all (start + count) row (omega (arith, e))
