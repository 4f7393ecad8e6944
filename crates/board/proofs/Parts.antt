-- Parts of a run of sectors.
use Rattle.std.proofs.Common.{◌≡◌, ℕ, ◌+◌, ◌*◌, ◌≤◌, List, take, drop, ap, ◌∙◌, arith}
use Rattle.std.specs.Prelude.{◌-◌}
use Rattle.std.proofs.lemmas.List.{drop-drop, drop-take, take-take}
use Rattle.sector_cache.specs.Sector.{extent_of}

-- some sectors of a run of them are those of the whole
pub part_of_run : (bytes : List ℕ) (start count first few : ℕ) → first + few ≤ count
    → extent_of (extent_of bytes start count) first few ≡ extent_of bytes (start + first) few
part_of_run bytes start count first few inside =
    let more : ℕ = 512 * (count - first) in
    let run : List ℕ = drop (512 * start) bytes in
    let long : 512 * count ≡ 512 * first + more = omega (arith, inside) in
    ap (λ k. take (512 * few) (drop (512 * first) (take k run))) long
    ∙ ap (take (512 * few)) (drop-take (512 * first) more run)
    ∙ take-take (512 * few) more (drop (512 * first) run) (omega (arith, inside))
    ∙ ap (take (512 * few)) (drop-drop (512 * first) (512 * start) bytes)
    ∙ ap (λ k. take (512 * few) (drop k bytes)) (omega arith)
