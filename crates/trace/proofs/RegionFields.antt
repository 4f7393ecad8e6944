-- The field that spells the regions of a memory: its parts are those of the regions, each of two numbers.
use Rattle.std.proofs.Common.{◌≡◌, ℕ, ◌<◌, ◌≤◌, List, [], ◌∷◌, ◌++◌, All, Option, None, Some, IfSome, length, get_or, map, refl, sym, ap, subst, ◌∙◌, arith}
use Rattle.std.specs.Prelude.{OnSome}
use Rattle.std.specs.List.{AllByRecursion, join_with_byte}
use Rattle.std.proofs.lemmas.List.{append-nil, get_or-map, get_or_at, length-append, length-map}
use Rattle.hexadecimal.specs.Spelling.{num}
use Rattle.guest_memory.specs.declared.spec.RegionSpec.{RegionSpec}
use Rattle.trace.specs.Cuts.{parts, parts_left}
use Rattle.trace.specs.Spelling.{region_text, regions_text}
use Rattle.trace.specs.Words.{IsRegionField, IsRegionsField, RegionInRange, Regions, Says}
use Rattle.trace.proofs.Pairs.{IsNoDigit, free_num, joined_parts, low_sign, pair_parts, parts_joined, some_parts}
use Rattle.trace.proofs.Signs.{Free}

free_append : (sign : ℕ) (xs ys : List ℕ) → Free sign xs → Free sign ys → Free sign (xs ++ ys)
free_append sign [] ys hx hy = hy
free_append sign (x ∷ xs) ys hx hy = (hx.0, free_append sign xs ys hx.1 hy)

pub plus : IsNoDigit 43
plus = low_sign 43 (omega arith)

comma : IsNoDigit 44
comma = low_sign 44 (omega arith)

-- ---- one region

pub region_parts : (region : RegionSpec) → parts 43 (region_text region) ≡ num region.base
    ∷ num region.len ∷ []
region_parts region = pair_parts 43 region.base region.len plus

-- ---- the regions of a field

free_regions : (regions : List RegionSpec) → AllByRecursion (Free 44) (map region_text regions)
free_regions [] = tt
free_regions (r ∷ rs) = (
  free_append 44 (num r.base) (43 ∷ num r.len) (free_num 44 r.base comma)
      (refl, free_num 44 r.len comma),
  free_regions rs,
)

pub regions_parts : (regions : List RegionSpec) → 1 ≤ length regions
    → parts 44 (regions_text regions) ≡ map region_text regions
regions_parts [] some = absurd (omega (arith, some))
regions_parts (r ∷ rs) some = parts_joined 44 (region_text r) (map region_text rs) (free_regions (r ∷ rs))

no_region : RegionSpec
no_region = record { base = 0; len = 0 }

module _ (field : List ℕ) (items : List RegionSpec) (rest : Option (List ℕ))
    (so_far : parts 44 field ≡ map region_text items ++ parts_left 44 rest) where
  parsed : (regions : List RegionSpec) → IsRegionsField field regions
      → map region_text regions ≡ map region_text items ++ parts_left 44 rest
  parsed regions is = sym (regions_parts regions is.some) ∙ sym (ap (parts 44) is.spelled) ∙ so_far

  -- more than eight
  pub too_many : (list : List ℕ) → rest ≡ Some list → 8 ≤ length items → ¬ Says Regions field
  too_many list some full says =
      let regions = says.0 in
      let is = says.1 in
      let parts_are : map region_text regions ≡ map region_text items ++ parts 44 list =
      subst (λ (r : Option (List ℕ)). map region_text regions ≡ map region_text items
      ++ parts_left 44 r) some (parsed regions is) in
      let few = is.few in
      omega (
        arith,
        few,
        full,
        some_parts 44 list,
        ap length parts_are,
        length-append (map region_text items) (parts 44 list),
        length-map regions region_text,
        length-map items region_text,
      )

  -- the next one is none
  pub bad_part : (list part : List ℕ) (others : List (List ℕ)) → rest ≡ Some list
      → parts 44 list ≡ part ∷ others → ((region : RegionSpec) → ¬ IsRegionField part region)
      → ¬ Says Regions field
  bad_part list part others some cut none says =
      let regions = says.0 in
      let is = says.1 in
      let parts_are : map region_text regions ≡ map region_text items ++ part ∷ others =
      subst (λ (r : Option (List ℕ)). map region_text regions ≡ map region_text items
      ++ parts_left 44 r) some (parsed regions is)
      ∙ ap (λ (xs : List (List ℕ)). map region_text items ++ xs) cut in
      let below : length items < length regions =
      omega (
        arith,
        ap length parts_are,
        length-append (map region_text items) (part ∷ others),
        length-map regions region_text,
        length-map items region_text,
      ) in
      let here : part ≡ region_text (get_or regions (length items) no_region) =
      sym (get_or_at (map region_text items) part others [] (length items) (length-map items region_text))
      ∙ ap (λ (xs : List (List ℕ)). get_or xs (length items) []) (sym parts_are)
      ∙ get_or-map region_text regions (length items) no_region [] below in
      none (get_or regions (length items) no_region)
      (record { fits = is.fits (length items) no_region below; spelled = here })

  -- all of them
  pub all_read : rest ≡ None → length items ≤ 8 → All RegionInRange items → IsRegionsField field items
  all_read none few fits =
      let parts_are : parts 44 field ≡ map region_text items =
      subst (λ (r : Option (List ℕ)). parts 44 field ≡ map region_text items
      ++ parts_left 44 r) none so_far ∙ append-nil (map region_text items) in
      record {
        some = omega (arith, some_parts 44 field, ap length parts_are, length-map items region_text);
        few = few;
        fits = fits;
        spelled = sym (joined_parts 44 field) ∙ ap (join_with_byte 44) parts_are;
      }

-- what was made of those that were read
pub made_some : (field : List ℕ) (made : Option (List RegionSpec)) (items : List RegionSpec)
    → IfSome made (λ m. m ≡ items) → IsRegionsField field items → IfSome made (IsRegionsField field)
made_some field None items is h = tt
made_some field (Some m) items is h = subst (IsRegionsField field) (sym is) h

pub made_parsed : (field : List ℕ) (made : Option (List RegionSpec)) (items : List RegionSpec)
    → IfSome made (λ m. m ≡ items) → IsRegionsField field items → OnSome made (Says Regions field)
made_parsed field None items is h = tt
made_parsed field (Some m) items is h = (items, h)
