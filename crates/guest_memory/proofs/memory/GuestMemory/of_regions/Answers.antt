use Rattle.std.proofs.Common.{◌≡◌, inr, List, map, refl, ◌∙◌, ap, subst}
use Rattle.guest_memory.specs.declared.spec.RegionSpec.{RegionSpec}
use Rattle.guest_memory.specs.Faults.{AreGood, IsRefused, spec_of}
use Rattle.guest_memory.proofs.Faults.{good_regions}
use Rattle.guest_memory.proofs.Stocked.{none_kept}
use Rattle.guest_memory.proofs.memory.GuestMemory.of_regions.Goals as goal

pub invariant_of-result : goal.invariant_of-result
invariant_of-result g c =
    let same : c.deref-2.result.now ≡ map spec_of c.args.regions.items = c.deref-2.ensures.value
    ∙ c.in-Ok.ensures ∙ ap (map spec_of) c.deref.ensures.value in
    good_regions c.args.regions.items (subst AreGood same (c.fault_of_regions.ensures.good.0 c.in-None.is))

pub returns-in-Some-clause-fault : goal.returns-in-Some-clause-fault
returns-in-Some-clause-fault g c =
    let same : c.deref-2.result.now ≡ map spec_of c.args.regions.items = c.deref-2.ensures.value
    ∙ c.in-Ok.ensures ∙ ap (map spec_of) c.deref.ensures.value in
    inr (subst (λ (rs : List RegionSpec). IsRefused rs c.in-Some.field-0.fault) same
    (record { place = c.in-Some.field-0.region; by_it = c.in-Some.ensures.fault }))

pub returns-in-None-clause-made : goal.returns-in-None-clause-made
returns-in-None-clause-made g c = none_kept c.new.result.items c.args.regions.items c.new.ensures.items refl
