use Rattle.std.proofs.Common.{◌≡◌, ◌<◌, length, arith}
use Rattle.sector_cache.proofs.Coherence.{coherent_forgotten, coherent_written, coherent_kept, contents_written}
use Rattle.sector_cache.proofs.cache.SectorCache.write.Goals as goal

pub invariant_of-self-then-is_none : goal.invariant_of-self-then-is_none
invariant_of-self-then-is_none g c =
    let disk = g.I.Image.disk c.self.inside.image in let after = g.I.Image.disk c.write_sector.new.self in
    let without = c.forget.new.self.sectors in
    let whole = g.met.I.Image.whole c.self.inside.image in let within : c.args.sector < disk.sector_count =
    rw c.self.view_is c.requires in let long : length c.args.from.now ≡ 512 = omega arith in
    let forgotten = coherent_forgotten c.args.sector disk c.self.inside.kept.sectors without
    c.forget.ensures.rest c.self.invariant in
    let written = coherent_written c.args.sector disk after without c.args.from.now
    c.in_ok-write_sector.ensures.ok c.forget.ensures.none forgotten whole within long in
    coherent_kept c.args.sector after without c.keep.new.self.sectors c.args.from.now c.keep.ensures
    (contents_written c.args.sector disk after c.args.from.now c.in_ok-write_sector.ensures.ok whole
    within long) written
