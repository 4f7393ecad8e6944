-- The runs that are told, one behind the other.
use Rattle.std.proofs.Common.{◌≡◌, ◌<◌, ◌≤◌, ◌⊎◌, inl, inr, ℕ, zero, suc, List, [], ◌∷◌, Some, refl, sym, ap, length, take, slice_set, arith}
use Rattle.std.specs.List.{slice_get}
use Rattle.std.proofs.lemmas.Option.{same_Some}
use Rattle.chain.specs.declared.segment.Segment.{Segment}
use Rattle.c_values.specs.declared.operation.Run.{Run}
use Rattle.c_values.specs.Operation.{told_run, told_runs}

-- one more is told
pub one_told : (place : ℕ) (runs : List Segment) (room : List Run) (run : Segment) → place < length room
    → slice_get runs place ≡ Some run → slice_set (told_runs (take place runs) room) place (told_run run)
    ≡ told_runs (take (suc place) runs) room
one_told place [] room run inside there = absurd (cc)
one_told place (first ∷ runs) [] run inside there = absurd (omega (arith, inside))
one_told zero (first ∷ runs) (old ∷ room) run inside there =
    ap (λ (r : Segment). told_run r ∷ room) (sym (same_Some first run there))
one_told (suc place) (first ∷ runs) (old ∷ room) run inside there =
    ap (λ (rest : List Run). told_run first ∷ rest)
    (one_told place runs room run (omega (arith, inside)) there)

-- the place behind one is the next
pub behind : (place next : ℕ) (runs : List Segment) (room told : List Run) → next ≡ suc place
    → told ≡ told_runs (take (suc place) runs) room → told ≡ told_runs (take next runs) room
behind place next runs room told same is = rw same is

-- all that find room are told
pub all_told : (count : ℕ) (runs : List Segment) (room : List Run) → (length runs ≤ count)
    ⊎ (length room ≤ count) → told_runs (take count runs) room ≡ told_runs runs room
all_told zero [] room enough = refl
all_told (suc count) [] room enough = refl
all_told zero (run ∷ runs) [] enough = refl
all_told (suc count) (run ∷ runs) [] enough = refl
all_told zero (run ∷ runs) (old ∷ room) (inl few) = absurd (omega (arith, few))
all_told zero (run ∷ runs) (old ∷ room) (inr few) = absurd (omega (arith, few))
all_told (suc count) (run ∷ runs) (old ∷ room) (inl few) =
    ap (λ (rest : List Run). told_run run ∷ rest) (all_told count runs room (inl (omega (arith, few))))
all_told (suc count) (run ∷ runs) (old ∷ room) (inr few) =
    ap (λ (rest : List Run). told_run run ∷ rest) (all_told count runs room (inr (omega (arith, few))))
