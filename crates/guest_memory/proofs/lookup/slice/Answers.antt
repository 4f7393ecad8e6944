use Rattle.std.proofs.Common.{List, refl, arith, ◌∙◌}
use Rattle.guest_memory.specs.Regions.{Region, memory_of}
use Rattle.guest_memory.proofs.InRegions.{part_in, region_fits}
use Rattle.guest_memory.proofs.lookup.slice.Goals as goal

pub returns : goal.returns
returns g c =
    let rs : List Region = c.args.regions.now in
    let place = c.place_inside-place.result in
    let region : Region = c.index-regions-place.result in
    let within = c.place_inside-place.ensures.place in
    let lies = c.place_inside-place.ensures.region region in
    let part = part_in rs place c.args.addr c.args.n region (memory_of rs) refl c.requires.apart within lies
    c.index-regions-place.is in
    record {
      value = c.slice.ensures.value ∙ part;
      len = c.slice.ensures.len;
      fits = omega (arith, region_fits rs place region c.requires.apart within, lies.below);
    }
