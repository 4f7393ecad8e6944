use Rattle.std.proofs.Common.{List, refl, sym, ◌∙◌}
use Rattle.guest_memory.specs.Regions.{Region, memory_of}
use Rattle.guest_memory.proofs.InRegions.{found_holds, none_inside, touches_found}
use Rattle.guest_memory.proofs.lookup.holds.Goals as goal

pub room_behind-requires : goal.room_behind-requires
room_behind-requires g c =
    touches_found c.args.regions.now c.args.addr c.in-Some.place c.place_of.result
    c.index-regions-place.result c.place_of.ensures c.in-Some.is
    c.index-regions-place.is

pub returns-in-Some-clause-inside : goal.returns-in-Some-clause-inside
returns-in-Some-clause-inside g c =
    let rs : List Region = c.args.regions.now in
    found_holds rs c.args.addr c.args.n c.in-Some.place c.room_behind.result
    c.index-regions-place.result (memory_of rs) refl c.requires
    (sym c.place_of.ensures ∙ c.in-Some.is) c.index-regions-place.is c.room_behind.ensures.value

pub returns-in-None-clause-inside : goal.returns-in-None-clause-inside
returns-in-None-clause-inside g c =
    none_inside c.args.regions.now c.args.addr c.args.n c.place_of.result c.requires
    c.place_of.ensures c.in-None.is
