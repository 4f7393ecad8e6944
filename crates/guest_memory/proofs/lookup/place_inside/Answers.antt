use Rattle.std.proofs.Common.{[], arith}
use Rattle.guest_memory.proofs.InRegions.{found_inside, only_inside}
use Rattle.guest_memory.proofs.lookup.place_inside.Goals as goal

pub returns-then-regions-eq1-clause-region : goal.returns-then-regions-eq1-clause-region
returns-then-regions-eq1-clause-region g c = λ d.
    only_inside c.args.regions.now c.args.addr c.args.n d c.requires.apart c.requires.inside (omega arith)

pub returns-clause-place : goal.returns-clause-place
returns-clause-place g c =
    (found_inside c.args.regions.now c.args.addr c.args.n (record { base = 0; bytes = [] })
    c.place_of.result c.unwrap_or.result
    c.requires.apart c.requires.inside c.place_of.ensures c.unwrap_or.ensures).0

pub returns-clause-region : goal.returns-clause-region
returns-clause-region g c = λ d.
    (found_inside c.args.regions.now c.args.addr c.args.n d c.place_of.result c.unwrap_or.result
    c.requires.apart c.requires.inside c.place_of.ensures c.unwrap_or.ensures).1
