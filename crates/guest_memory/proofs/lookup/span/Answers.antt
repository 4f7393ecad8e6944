use Rattle.std.proofs.Common.{arith}
use Rattle.guest_memory.proofs.InRegions.{some_region, last_region}
use Rattle.guest_memory.proofs.lookup.span.Goals as goal

pub overflow_sub-last : goal.overflow_sub-last
overflow_sub-last g c = omega (arith, some_region c.args.regions.now c.requires.apart)

pub bounds-regions-regions : goal.bounds-regions-regions
bounds-regions-regions g c = omega (arith, some_region c.args.regions.now c.requires.apart)

pub overflow_sub-result : goal.overflow_sub-result
overflow_sub-result g c =
    let at = last_region c.requires c.index-regions-regions.is in
    omega (arith, at.0, at.1, at.2, c.base.ensures, c.base-2.ensures)

pub overflow_add-result : goal.overflow_add-result
overflow_add-result g c =
    let at = last_region c.requires c.index-regions-regions.is in
    omega (arith, at.0, at.1, at.2, c.base.ensures, c.base-2.ensures, c.len.ensures.value)

pub returns : goal.returns
returns g c =
    let at = last_region c.requires c.index-regions-regions.is in
    omega (arith, at.0, at.1, at.2, c.base.ensures, c.base-2.ensures, c.len.ensures.value)
