use Rattle.std.proofs.Common.{arith}
use Rattle.sector_cache.proofs.Coherence.{contents_chunk}
use Rattle.sector_cache.proofs.cache.lend_one.Goals as goal

pub returns-clause-contents : goal.returns-clause-contents
returns-clause-contents g c =
    contents_chunk c.first_chunk.result (λ bytes. bytes.now) _ _
    (g.I.Image.disk c.args.image.now) c.args.sector
    c.in_ok-lend_sectors.field-0.now c.first_chunk.ensures.cases (λ bytes is. is.same)
    (g.met.I.Image.whole c.args.image.now) (omega arith) c.in_ok-lend_sectors.ensures.contents
