-- How up to eight regions stand in eight places.
use Rattle.std.specs.Prelude.{◌≡◌, ℕ, ◌-◌, ◌≤◌, List, ◌++◌, length, take, drop, replicate}
use Rattle.std.proofs.Common.{sym, ◌∙◌, ap, subst, length-take-le, take-append-drop}
use Rattle.guest_memory.specs.declared.spec.RegionSpec.{RegionSpec}

-- what stands where there is no region
abbrev pub none : RegionSpec
none = record { base = 0; len = 0 }

-- the first of eight places are regions, and the rest are none
pub record HasPlaces (places : List RegionSpec) (count : ℕ) : Type 0 where
  pub eight : length places ≡ 8
  pub few : count ≤ 8
  pub rest : drop count places ≡ replicate (8 - count) none

-- the regions in eight places
abbrev pub in_places : List RegionSpec → List RegionSpec
in_places regions = regions ++ replicate (8 - length regions) none

-- so many regions, and those places, are told from the regions
pub count_again : (places : List RegionSpec) (count : ℕ) → HasPlaces places count
    → length (take count places) ≡ count
count_again places count h = length-take-le count places (subst (λ (n : ℕ). count ≤ n) (sym h.eight) h.few)

pub places_again : (places : List RegionSpec) (count : ℕ) → HasPlaces places count
    → in_places (take count places) ≡ places
places_again places count h =
    ap (λ (k : ℕ). take count places ++ replicate (8 - k) none) (count_again places count h)
    ∙ ap (λ (rest : List RegionSpec). take count places ++ rest) (sym h.rest)
    ∙ take-append-drop count places
