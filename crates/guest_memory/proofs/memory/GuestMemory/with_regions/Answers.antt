use Rattle.std.proofs.Common.{subst, sym, ap}
use Rattle.guest_memory.specs.Faults.{AreGood}
use Rattle.guest_memory.specs.Regions.{AreRegions, memory_of}
use Rattle.guest_memory.proofs.Faults.{good_ends, good_zeroed}
use Rattle.guest_memory.proofs.Stocked.{none_kept}
use Rattle.guest_memory.proofs.memory.GuestMemory.with_regions.Goals as goal

pub zeroed-requires : goal.zeroed-requires
zeroed-requires g c = good_ends c.args.regions.now (c.fault_of_regions.ensures.good.0 c.in_default.is)

pub invariant_of-result : goal.invariant_of-result
invariant_of-result g c =
    let good : AreGood c.args.regions.now = c.fault_of_regions.ensures.good.0 c.in_default.is in
    subst AreRegions (sym c.in-Ok.ensures) (good_zeroed c.args.regions.now good)

pub returns-in-Ok-clause-made : goal.returns-in-Ok-clause-made
returns-in-Ok-clause-made g c =
    none_kept c.new.result.items c.in-Ok.regions.items c.new.ensures.items (ap memory_of c.in-Ok.ensures)
