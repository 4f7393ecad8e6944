-- Lent words beside the regions that they are for, and the regions of one call.
use Rattle.std.proofs.Common.{◌≡◌, ◌∙◌, ℕ, zero, suc, ◌*◌, ◌+◌, ◌-◌, ◌^◌, ◌<◌, ◌≤◌, List, [], ◌∷◌, Some, length, map, take, get_or, refl, sym, ap, arith}
use Rattle.std.specs.List.{slice_get}
use Rattle.std.proofs.lemmas.List.{get_or-map, length-map, length-replicate}
use Rattle.std.proofs.lemmas.Option.{get_or_from_slice_get, same_Some, slice_get-get_or, slice_get_within}
use Rattle.guest_memory.specs.declared.spec.RegionSpec.{RegionSpec}
use Rattle.guest_memory.specs.Faults.{AreGood, IsGoodRegion, zeroed_region, zeroed_regions}
use Rattle.guest_memory.proofs.Faults.{good_zeroed}
use Rattle.guest_memory.proofs.InRegions.{first_base, last_region}
use Rattle.racing_session.specs.Judging.{AreWordsOf}

-- the first of some items are those of a list that has them at its places
firsts : {X : Type 0} (xs ys : List X) → ((i : ℕ) (x : X) → slice_get xs i ≡ Some x → slice_get ys i ≡ Some x)
    → take (length xs) ys ≡ xs
firsts [] ys at = refl
firsts (x ∷ xs) [] at = absurd (cc (at 0 x refl))
firsts (x ∷ xs) (y ∷ ys) at =
    let same : y ≡ x = same_Some y x (at 0 x refl) in
    let rest : take (length xs) ys ≡ xs = firsts xs ys (λ i z here. at (suc i) z here) in
    ap (λ z. z ∷ take (length xs) ys) same ∙ ap (λ zs. x ∷ zs) rest

-- ---- eight regions

-- the region made for a place is the one that stands there
abbrev IsAt : List RegionSpec → ℕ → RegionSpec → Type 0
IsAt regions i made = (region : RegionSpec) → slice_get regions i ≡ Some region → made ≡ region

module _ (regions : List RegionSpec) (few : length regions ≤ 8) (a b c d e f g h : RegionSpec)
    (first : IsAt regions 0 a) (second : IsAt regions 1 b) (third : IsAt regions 2 c) (fourth : IsAt regions 3 d)
    (fifth : IsAt regions 4 e) (sixth : IsAt regions 5 f) (seventh : IsAt regions 6 g) (eighth : IsAt regions 7 h) where
  abbrev pub all : List RegionSpec
  all = a ∷ b ∷ c ∷ d ∷ e ∷ f ∷ g ∷ h ∷ []

  at : (i : ℕ) (region : RegionSpec) → slice_get regions i ≡ Some region → slice_get all i ≡ Some region
  at zero region here = ap Some (first region here)
  at (suc zero) region here = ap Some (second region here)
  at (suc (suc zero)) region here = ap Some (third region here)
  at (suc (suc (suc zero))) region here = ap Some (fourth region here)
  at (suc (suc (suc (suc zero)))) region here = ap Some (fifth region here)
  at (suc (suc (suc (suc (suc zero))))) region here = ap Some (sixth region here)
  at (suc (suc (suc (suc (suc (suc zero)))))) region here = ap Some (seventh region here)
  at (suc (suc (suc (suc (suc (suc (suc zero))))))) region here = ap Some (eighth region here)
  at (suc (suc (suc (suc (suc (suc (suc (suc i)))))))) region here =
      absurd (omega (arith, few, slice_get_within regions (suc (suc (suc (suc (suc (suc (suc (suc i)))))))) region here))

  pub eight : take (length regions) all ≡ regions
  eight = firsts regions all at

-- ---- words

-- there are as many runs as regions
pub as_many : (regions : List RegionSpec) (words : List (List (Unit {0}))) → AreWordsOf regions words
    → length words ≡ length regions
as_many regions words are =
    sym (length-map words (λ run. 8 * length run)) ∙ ap length are ∙ length-map regions (λ region. region.len)

-- and each is as long as its region
module _ {V : Type 0} (items : V → List (Unit {0})) (regions : List RegionSpec) (runs : List V)
    (are : AreWordsOf regions (map items runs)) (i : ℕ) (few : i < length regions) (run : V) (is : run ≡ get_or runs i run)
    (none : RegionSpec) where
  pub long : 8 * length (items run) ≡ (get_or regions i none).len
  long =
      let there : i < length (map items runs) = omega (arith, few, as_many regions (map items runs) are) in
      let here : i < length runs = omega (arith, there, length-map runs items) in
      ap (λ v. 8 * length (items v)) is
      ∙ ap (λ r. 8 * length r) (sym (get_or-map items runs i run [] here))
      ∙ sym (get_or-map (λ r. 8 * length r) (map items runs) i [] 0 there)
      ∙ ap (λ ns. get_or ns i 0) are
      ∙ get_or-map (λ region. region.len) regions i none 0 few

  good_at : AreGood regions → IsGoodRegion (take i regions) (get_or regions i none)
  good_at good = good.each i (get_or regions i none) few (slice_get-get_or regions i none few)

  pub few_bytes : AreGood regions → 8 * length (items run) ≤ 2 ^ 46
  few_bytes good = omega (arith, long, (good_at good).size.own.most)

  pub ends_below : AreGood regions → (get_or regions i none).base + 8 * length (items run) ≤ 2 ^ 64
  ends_below good = omega (arith, long, (good_at good).place.own.below)

  pub is_at : (made : RegionSpec) → made.base ≡ (get_or regions i none).base → made.len ≡ 8 * length (items run)
      → IsAt regions i made
  is_at made base len region here =
      let found : get_or regions i none ≡ region = get_or_from_slice_get regions i region none here in
      ap (λ n. record { base = n; len = made.len }) base
      ∙ ap (λ n. record { base = (get_or regions i none).base; len = n }) (len ∙ long)
      ∙ found

-- ---- how many addresses a memory has

-- good regions have a last one, behind the first, and it ends where the memory does
pub record Spans (rs : List RegionSpec) (first last : RegionSpec) : Type 0 where
  pub some : 0 < length rs
  pub from : first.base ≤ last.base
  pub to : last.base + last.len ≡ first.base + length (zeroed_regions rs).bytes
  pub fits : length (zeroed_regions rs).bytes < 2 ^ 64

pub spans : (rs : List RegionSpec) (d : RegionSpec) → AreGood rs → Spans rs (get_or rs 0 d) (get_or rs (length rs - 1) d)
spans [] d good = absurd (omega (arith, good.some))
spans (r ∷ rs) d good =
    let zs = map zeroed_region (r ∷ rs) in
    let last = get_or (r ∷ rs) (length (r ∷ rs) - 1) d in
    let size : length zs ≡ length (r ∷ rs) = length-map (r ∷ rs) zeroed_region in
    let place : length zs - 1 ≡ length (r ∷ rs) - 1 = omega (arith, size) in
    let here : get_or zs (length zs - 1) (zeroed_region last) ≡ zeroed_region last =
    ap (λ (i : ℕ). get_or zs i (zeroed_region last)) place
    ∙ get_or-map zeroed_region (r ∷ rs) (length (r ∷ rs) - 1) d (zeroed_region last) (omega arith) in
    let at = last_region {rs = zs} {x = zeroed_region last} (good_zeroed (r ∷ rs) good) (sym here) in
    let base = first_base (zeroed_region r) (map zeroed_region rs) in
    let len = length-replicate {A = ℕ} last.len 0 in
    record {
      some = omega arith;
      from = omega (arith, at.1, base);
      to = omega (arith, at.0, base, len);
      fits = at.2;
    }
