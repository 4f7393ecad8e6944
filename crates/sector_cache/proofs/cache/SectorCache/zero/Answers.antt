use Rattle.std.proofs.Common.{rules}
use Rattle.sector_cache.proofs.Coherence.{coherent_forgotten, coherent_unkept}
use Rattle.sector_cache.proofs.cache.SectorCache.zero.Goals as goal

pub invariant_of-self : goal.invariant_of-self
invariant_of-self g c = let whole = g.met.I.Image.whole c.self.inside.image in
    search (rules, coherent_unkept, coherent_forgotten)
