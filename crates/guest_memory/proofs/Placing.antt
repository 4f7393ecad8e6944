-- Regions that are put into eight places.
use Rattle.std.proofs.Common.{◌≡◌, ℕ, ◌-◌, ◌≤◌, List, [], ◌∷◌, ◌++◌, length, drop, replicate, refl, ◌∙◌, arith, length-append, length-drop}
use Rattle.std.proofs.lemmas.List.{places, same_lists, length-replicate}
use Rattle.guest_memory.specs.declared.spec.RegionSpec.{RegionSpec}
use Rattle.guest_memory.specs.Places.{none, HasPlaces}

-- the places behind the first ones are none
rest_none : (n : ℕ) → n ≤ 8 → drop n (replicate 8 none) ≡ replicate (8 - n) none
rest_none n few =
    same_lists _ _ (simp (length-drop, length-replicate) (omega arith)) (λ k d h. grind (arith, places))

drop_behind : (xs ys : List RegionSpec) → drop (length xs) (xs ++ ys) ≡ ys
drop_behind [] ys = refl
drop_behind (x ∷ xs) ys = drop_behind xs ys

-- regions in the first places, and none behind them
pub put_in_places : (regions : List RegionSpec) → length regions ≤ 8
    → HasPlaces (regions ++ drop (length regions) (replicate 8 none)) (length regions)
put_in_places regions few = record {
  eight =
      omega (
        arith,
        few,
        length-append regions (drop (length regions) (replicate 8 none)),
        length-drop (length regions) (replicate 8 none),
        length-replicate {A = RegionSpec} 8 none,
      );
  few = few;
  rest = drop_behind regions (drop (length regions) (replicate 8 none)) ∙ rest_none (length regions) few;
}
