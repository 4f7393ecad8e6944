use Rattle.std.proofs.Common.{arith, rules, ◌≡◌, None, List, [], ◌∷◌, replicate, refl, subst, sym, ap, ◌∙◌}
use Rattle.guest_memory.specs.Regions.{Region, AreRegions, memory_of}
use Rattle.guest_memory.proofs.InRegions.{zeroed_region, zeroed_regions}
use Rattle.guest_memory.proofs.Stocked.{none_kept}
use Rattle.guest_memory.proofs.memory.GuestMemory.new.Goals as goal

pub invariant_of-result : goal.invariant_of-result
invariant_of-result g c =
    let none : c.fault_of.result ≡ None = search rules in
    let good = c.fault_of.ensures.good.0 none in
    let zeros : List Region = record { base = c.args.base; bytes = replicate c.args.len 0 } ∷ [] in
    subst AreRegions (sym c.in-Ok.ensures)
    (zeroed_regions zeros c.args.base c.args.len refl good.1.below (omega (arith, good.0.most)))

pub returns-in-Ok-clause-made : goal.returns-in-Ok-clause-made
returns-in-Ok-clause-made g c =
    let zeros : List Region = record { base = c.args.base; bytes = replicate c.args.len 0 } ∷ [] in
    none_kept c.new.result.items c.in-Ok.regions.items c.new.ensures.items (
    ap memory_of c.in-Ok.ensures ∙ zeroed_region zeros c.args.base c.args.len refl)
