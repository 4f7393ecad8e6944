-- Regions that were found good make a memory, and what refuses others is one thing.
use Rattle.std.proofs.Common.{◌≡◌, ◌⊎◌, inl, inr, ℕ, zero, suc, ◌+◌, ◌<◌, ◌≤◌, ◌^◌, List, [], ◌∷◌, length, map, take, Some, get_or, refl, sym, ◌∙◌, ap, subst, arith}
use Rattle.std.specs.List.{All, slice_get}
use Rattle.std.proofs.lemmas.Bool.{cases_lt, cases_order}
use Rattle.std.proofs.lemmas.List.{get_or-map, length-map, length-replicate}
use Rattle.std.proofs.lemmas.List.Elements.{All-head, All-tail}
use Rattle.std.proofs.lemmas.List.Sums.{sum_by-cons, sum_by_more}
use Rattle.std.proofs.lemmas.Option.{slice_get-get_or, slice_get_within}
use Rattle.guest_memory.specs.declared.fault.MemoryFault.{MemoryFault}
use Rattle.guest_memory.specs.declared.fault.MemoryFault.TheVariants.{NoRegions, BadSize, BadBase, NotApart, NoMemory}
use Rattle.guest_memory.specs.declared.fault.RegionFault.{RegionFault}
use Rattle.guest_memory.specs.declared.spec.RegionSpec.{RegionSpec}
use Rattle.guest_memory.specs.Regions.{Region, AreApart, AreRegions, memory_of}
use Rattle.guest_memory.specs.Faults.{IsGoodRegion, GoodBelow, AreGood, IsFaultOf, HasFaultAt, IsRefusedAt, size_of, spec_of, zeroed_region}
use Rattle.guest_memory.proofs.InRegions.{some_region, one_apart, more_apart, first_base, ends_last}

-- a fault of the region at this place
abbrev pair : ℕ → MemoryFault → RegionFault
pair place fault = record { region = place; fault = fault }

-- a good region has no fault
pub faulty_not_good : (earlier : List RegionSpec) (r : RegionSpec) (fault : MemoryFault)
    → IsFaultOf earlier r fault → IsGoodRegion earlier r → ⊥
faulty_not_good earlier r NoRegions is good = is
faulty_not_good earlier r BadSize is good = is good.size
faulty_not_good earlier r BadBase is good = is.1 good.place
faulty_not_good earlier r NotApart is good = is.2 good.above
faulty_not_good earlier r NoMemory is good = is

-- a region has one fault that counts
pub one_of_region : (earlier : List RegionSpec) (r : RegionSpec) (f g : MemoryFault) → IsFaultOf earlier r f
    → IsFaultOf earlier r g → f ≡ g
one_of_region earlier r BadSize BadSize is also = refl
one_of_region earlier r BadSize BadBase is also = absurd (is also.0)
one_of_region earlier r BadSize NotApart is also = absurd (is also.0)
one_of_region earlier r BadSize NoRegions is also = absurd also
one_of_region earlier r BadSize NoMemory is also = absurd also
one_of_region earlier r BadBase BadSize is also = absurd (also is.0)
one_of_region earlier r BadBase BadBase is also = refl
one_of_region earlier r BadBase NotApart is also = absurd (is.1 also.1)
one_of_region earlier r BadBase NoRegions is also = absurd also
one_of_region earlier r BadBase NoMemory is also = absurd also
one_of_region earlier r NotApart BadSize is also = absurd (also is.0)
one_of_region earlier r NotApart BadBase is also = absurd (also.1 is.1)
one_of_region earlier r NotApart NotApart is also = refl
one_of_region earlier r NotApart NoRegions is also = absurd also
one_of_region earlier r NotApart NoMemory is also = absurd also
one_of_region earlier r NoRegions g is also = absurd is
one_of_region earlier r NoMemory g is also = absurd is

-- the first region with a fault is the same, and so is its fault
same_first : (regions : List RegionSpec) (i j : ℕ) (f g : MemoryFault) (one : HasFaultAt regions i f)
    (other : HasFaultAt regions j g) → (i ≡ j) ⊎ ((i < j) ⊎ (j < i)) → (i ≡ j) × (f ≡ g)
same_first regions i j f g one other (inl same) =
    let region_is : one.region ≡ other.region =
    cc (ap (λ k. slice_get regions k) same, one.there, other.there) in (
      same,
      one_of_region (take j regions) other.region f g
          (subst (λ (r : RegionSpec). IsFaultOf (take j regions) r f) region_is
          (subst (λ k. IsFaultOf (take k regions) one.region f) same one.fault_is))
          other.fault_is,
    )
same_first regions i j f g one other (inr (inl before)) =
    absurd (faulty_not_good (take i regions) one.region f one.fault_is
    (other.before i one.region before one.there))
same_first regions i j f g one other (inr (inr before)) =
    absurd (faulty_not_good (take j regions) other.region g other.fault_is
    (one.before j other.region before other.there))

-- where a refusal comes from
data Why (regions : List RegionSpec) (i : ℕ) (fault : MemoryFault) : Type 0 where
  none : fault ≡ NoRegions → length regions ≡ 0 → i ≡ 0 → Why regions i fault
  first : HasFaultAt regions i fault → Why regions i fault

why : (regions : List RegionSpec) (i : ℕ) (fault : MemoryFault) → IsRefusedAt regions i fault
    → Why regions i fault
why regions i NoRegions is = none refl (ap (λ (rs : List RegionSpec). length rs) is.0) is.1
why regions i BadSize is = first is
why regions i BadBase is = first is
why regions i NotApart is = first is
why regions i NoMemory is = absurd is

same_why : (regions : List RegionSpec) (i j : ℕ) (f g : MemoryFault) → Why regions i f → Why regions j g
    → (i ≡ j) × (f ≡ g)
same_why regions i j f g (none is empty at) (none is2 empty2 at2) = (at ∙ sym at2, is ∙ sym is2)
same_why regions i j f g (none is empty at) (first one2) =
    absurd (omega (arith, empty, slice_get_within regions j one2.region one2.there))
same_why regions i j f g (first one) (none is2 empty2 at2) =
    absurd (omega (arith, empty2, slice_get_within regions i one.region one.there))
same_why regions i j f g (first one) (first one2) = same_first regions i j f g one one2 (cases_order i j)

-- one refusal counts
pub one_refusal : (regions : List RegionSpec) (i j : ℕ) (f g : MemoryFault) → IsRefusedAt regions i f
    → IsRefusedAt regions j g → (i ≡ j) × (f ≡ g)
one_refusal regions i j f g one other = same_why regions i j f g (why regions i f one) (why regions j g other)

-- good regions aren't refused
pub refused_not_good : (regions : List RegionSpec) (i : ℕ) (f : MemoryFault) → IsRefusedAt regions i f
    → AreGood regions → ⊥
refused_not_good regions i f is good = never (why regions i f is)
  where
    never : Why regions i f → ⊥
    never (none is empty at) = omega (arith, empty, good.some)
    never (first one) =
        faulty_not_good (take i regions) one.region f one.fault_is
        (good.each i one.region (slice_get_within regions i one.region one.there) one.there)

-- an answer that names one region and its fault is exact
pub exact : (regions : List RegionSpec) (i : ℕ) (f : MemoryFault) → IsRefusedAt regions i f
    → (j : ℕ) (g : MemoryFault) → IsRefusedAt regions j g → Some (pair i f) ≡ Some (pair j g)
exact regions i f is j g also =
    let same = one_refusal regions i j f g is also in
    ap (λ (k : ℕ). Some (pair k f)) same.0 ∙ ap (λ (h : MemoryFault). Some (pair j h)) same.1

-- ---- regions one after another

-- the regions before a place were found good, and have that size together
pub record Judged (regions : List RegionSpec) (place size : ℕ) : Type 0 where
  pub good : GoodBelow regions place
  pub size_is : size ≡ size_of (take place regions)
  pub most : size ≤ 2 ^ 46

no_size : (regions : List RegionSpec) → 0 ≡ size_of (take 0 regions)
no_size [] = refl
no_size (r ∷ rs) = refl

pub none_judged : (regions : List RegionSpec) → Judged regions 0 0
none_judged regions = record {
  good = λ i r below there. absurd (omega (arith, below));
  size_is = no_size regions;
  most = omega arith;
}

more_at : (regions : List RegionSpec) (n : ℕ) (last : RegionSpec) → GoodBelow regions n
    → IsGoodRegion (take n regions) last → slice_get regions n ≡ Some last → (i : ℕ) (r : RegionSpec)
    → i < n + 1 → slice_get regions i ≡ Some r → (i < n) ⊎ (n ≤ i) → IsGoodRegion (take i regions) r
more_at regions n last good one here i r below there (inl before) = good i r before there
more_at regions n last good one here i r below there (inr behind) =
    let same : n ≡ i = omega arith in
    let region_is : last ≡ r = cc (ap (λ k. slice_get regions k) same) in
    subst (λ (s : RegionSpec). IsGoodRegion (take i regions) s) region_is
    (subst (λ k. IsGoodRegion (take k regions) last) same one)

-- one good region more
pub more_judged : (regions : List RegionSpec) (n size : ℕ) (d : RegionSpec) → n < length regions
    → Judged regions n size → IsGoodRegion (take n regions) (get_or regions n d)
    → Judged regions (n + 1) (size + (get_or regions n d).len)
more_judged regions n size d below judged one = record {
  good = λ i r near there. more_at regions n (get_or regions n d) judged.good one
      (slice_get-get_or regions n d below) i r near there (cases_lt i n);
  size_is = ap (λ (s : ℕ). s + (get_or regions n d).len) judged.size_is
      ∙ sym (sum_by_more (λ (r : RegionSpec). r.len) regions n d below);
  most = omega (arith, judged.size_is, one.size.together);
}

-- a region's fault, where those before it are good, refuses them
pub refused_by : (regions : List RegionSpec) (n : ℕ) (r : RegionSpec) (fault : MemoryFault)
    → slice_get regions n ≡ Some r → GoodBelow regions n → IsFaultOf (take n regions) r fault
    → IsRefusedAt regions n fault
refused_by regions n r NoRegions there good is = absurd is
refused_by regions n r BadSize there good is =
    record { region = r; there = there; before = good; fault_is = is }
refused_by regions n r BadBase there good is =
    record { region = r; there = there; before = good; fault_is = is }
refused_by regions n r NotApart there good is =
    record { region = r; there = there; before = good; fault_is = is }
refused_by regions n r NoMemory there good is = absurd is

-- where all were found good, they are
pub all_judged : (regions : List RegionSpec) (n size : ℕ) → 1 ≤ length regions → length regions ≤ n
    → Judged regions n size → AreGood regions
all_judged regions n size some all judged =
    record { some = some; each = λ i r below there. judged.good i r (omega (arith, all, below)) there }

-- ---- what good regions make

-- the regions behind the first are good
good_rest : (r : RegionSpec) (rs : List RegionSpec) → GoodBelow (r ∷ rs) (length (r ∷ rs))
    → GoodBelow rs (length rs)
good_rest r rs good i s below there =
    let one : IsGoodRegion (r ∷ take i rs) s = good (suc i) s (omega (arith, below)) there in
    record {
      size = record {
        own = one.size.own;
        together = omega (arith, one.size.together, sum_by-cons (λ (r : RegionSpec). r.len) r (take i rs));
      };
      place = record {
        own = one.place.own;
        spans = All-tail (λ other. s.base + s.len < other.base + 2 ^ 64) r (take i rs) one.place.spans;
      };
      above = All-tail (λ other. other.base + other.len < s.base) r (take i rs) one.above;
    }

-- the first region is good
good_first : (r : RegionSpec) (rs : List RegionSpec) → GoodBelow (r ∷ rs) (length (r ∷ rs))
    → IsGoodRegion [] r
good_first r rs good = good 0 r (omega arith) refl

-- good regions are apart
good_apart : (rs : List Region) → 1 ≤ length (map spec_of rs)
    → GoodBelow (map spec_of rs) (length (map spec_of rs)) → AreApart rs
good_apart [] some good = absurd (omega (arith, some))
good_apart (r ∷ []) some good = one_apart r (omega (arith, (good_first (spec_of r) [] good).place.own.below))
good_apart (r ∷ (s ∷ rs)) some good =
    let second : IsGoodRegion (spec_of r ∷ []) (spec_of s) = good 1 (spec_of s) (omega arith) refl in
    more_apart r s rs
    (omega (arith, All-head (λ other. other.base + other.len < s.base) (spec_of r) [] second.above))
    (good_apart (s ∷ rs) (omega arith) (good_rest (spec_of r) (map spec_of (s ∷ rs)) good))

-- the last ends less than 2^64 addresses behind the first byte
last_spans : (r : RegionSpec) (rs : List RegionSpec) (i : ℕ) (d : RegionSpec)
    → GoodBelow (r ∷ rs) (length (r ∷ rs)) → i < length (r ∷ rs)
    → (get_or (r ∷ rs) i d).base + (get_or (r ∷ rs) i d).len < r.base + 2 ^ 64
last_spans r rs zero d good within = omega (arith, (good_first r rs good).size.own.most)
last_spans r rs (suc i) d good within =
    let one : IsGoodRegion (r ∷ take i rs) (get_or rs i d) =
    good (suc i) (get_or rs i d) within (slice_get-get_or (r ∷ rs) (suc i) d within) in
    All-head (λ other. (get_or rs i d).base + (get_or rs i d).len < other.base + 2 ^ 64) r
    (take i rs) one.place.spans

spans_less : (rs : List Region) (apart : AreApart rs) → GoodBelow (map spec_of rs) (length (map spec_of rs))
    → length (memory_of rs).bytes < 2 ^ 64
spans_less [] apart good = absurd (omega (arith, some_region [] apart))
spans_less (r ∷ rs) apart good =
    let last : ℕ = length rs in
    let end = ends_last (r ∷ rs) last r apart refl in
    let is : get_or (map spec_of (r ∷ rs)) last (spec_of r) ≡ spec_of (get_or (r ∷ rs) last r) =
    get_or-map spec_of (r ∷ rs) last r (spec_of r) (omega arith) in
    let within : last < length (spec_of r ∷ map spec_of rs) = omega (arith, length-map rs spec_of) in
    omega (
      arith,
      end,
      ap (λ (s : RegionSpec). s.base + s.len) is,
      last_spans (spec_of r) (map spec_of rs) last (spec_of r) good within,
      first_base r rs,
    )

-- good regions are those of a memory
pub good_regions : (rs : List Region) → AreGood (map spec_of rs) → AreRegions rs
good_regions rs good =
    let apart = good_apart rs good.some good.each in
    record { apart = apart; spans = spans_less rs apart good.each }

-- regions of zeros are where they are to be, and as large
specs_again : (rs : List RegionSpec) → map spec_of (map zeroed_region rs) ≡ rs
specs_again [] = refl
specs_again (r ∷ rs) =
    ap (λ (n : ℕ). record { base = r.base; len = n } ∷ map spec_of (map zeroed_region rs))
    (length-replicate {A = ℕ} r.len 0)
    ∙ ap (λ (ss : List RegionSpec). r ∷ ss) (specs_again rs)

pub good_zeroed : (rs : List RegionSpec) → AreGood rs → AreRegions (map zeroed_region rs)
good_zeroed rs good = good_regions (map zeroed_region rs) (subst AreGood (sym (specs_again rs)) good)

-- each ends by 2^64
pub good_ends : (rs : List RegionSpec) → AreGood rs → All (λ r. r.base + r.len ≤ 2 ^ 64) rs
good_ends rs good k d below =
    (good.each k (get_or rs k d) below (slice_get-get_or rs k d below)).place.own.below

-- ---- one region
