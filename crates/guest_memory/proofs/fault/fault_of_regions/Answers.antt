use Rattle.std.proofs.Common.{◌≡◌, ◌==◌, List, [], ◌∷◌, true, false, length, refl, sym, ◌∙◌, arith}
use Rattle.std.proofs.lemmas.Bool.Decides.{nat_tests}
use Rattle.std.proofs.lemmas.Option.{slice_get-get_or}
use Rattle.guest_memory.specs.declared.fault.MemoryFault.TheVariants.{NoRegions}
use Rattle.guest_memory.specs.declared.spec.RegionSpec.{RegionSpec}
use Rattle.guest_memory.specs.Faults.{AreGood, IsRefusedAt}
use Rattle.guest_memory.proofs.Faults.{all_judged, exact, more_judged, none_judged, refused_by, refused_not_good}
use Rattle.guest_memory.proofs.fault.fault_of_regions.Goals as goal

none_there : (regions : List RegionSpec) → (length regions == 0) ≡ true → regions ≡ []
none_there [] empty = refl
none_there (r ∷ rs) empty = absurd (grind (arith, nat_tests, empty))

pub loop-place-init : goal.loop-place-init
loop-place-init c = none_judged c.args.regions.now

pub loop-place-preserved : goal.loop-place-preserved
loop-place-preserved c =
    more_judged c.args.regions.now c.loop-place.place c.loop-place.size _ c.loop-place-test.true
    c.loop-place.invariant
    c.in_default.ensures.good

pub returns-in-Some : goal.returns-in-Some
returns-in-Some c =
    let is : IsRefusedAt c.args.regions.now c.loop-place.place c.in-Some.fault =
    refused_by c.args.regions.now c.loop-place.place _ c.in-Some.fault
    (slice_get-get_or c.args.regions.now c.loop-place.place _ c.loop-place-test.true)
    c.loop-place.invariant.good c.in-Some.ensures.fault in
    record {
      fault = is;
      exact = exact c.args.regions.now c.loop-place.place c.in-Some.fault is;
      good = (
        λ none. cc,
        λ good. absurd
            (refused_not_good c.args.regions.now c.loop-place.place c.in-Some.fault is good),
      );
    }

pub returns-then-is_empty : goal.returns-then-is_empty
returns-then-is_empty c =
    let empty : c.args.regions.now ≡ [] =
    none_there c.args.regions.now (sym c.is_empty.ensures ∙ c.if-is_empty.true) in
    let is : IsRefusedAt c.args.regions.now 0 NoRegions = (empty, refl) in
    record {
      fault = is;
      exact = exact c.args.regions.now 0 NoRegions is;
      good = (λ none. cc, λ good. absurd (refused_not_good c.args.regions.now 0 NoRegions is good));
    }

pub returns : goal.returns
returns c =
    let empty : (length c.args.regions.now == 0) ≡ false = sym c.is_empty.ensures ∙ c.if-is_empty.false in
    let good : AreGood c.args.regions.now =
    all_judged c.args.regions.now c.loop-place.place c.loop-place.size
    (grind (arith, nat_tests, empty)) (omega arith)
    c.loop-place.invariant in
    record {
      fault = tt;
      exact = λ place fault is. absurd (refused_not_good c.args.regions.now place fault is good);
      good = (λ none. good, λ is. refl);
    }
