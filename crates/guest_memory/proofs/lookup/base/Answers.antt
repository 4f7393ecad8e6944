use Rattle.std.proofs.Common.{refl, ◌∙◌}
use Rattle.guest_memory.specs.Regions.{memory_of}
use Rattle.guest_memory.proofs.InRegions.{some_region, begins}
use Rattle.guest_memory.proofs.lookup.base.Goals as goal

pub bounds-regions-0 : goal.bounds-regions-0
bounds-regions-0 g c = some_region c.args.regions.now c.requires

pub returns : goal.returns
returns g c =
    c.base.ensures ∙ begins c.args.regions.now c.index-regions-0.result (memory_of c.args.regions.now) refl
    c.requires c.index-regions-0.is
