use Rattle.std.proofs.Common.{arith, refl}
use Rattle.sector_cache.proofs.Sectors.{put_mid-sectors}
use Rattle.sector_cache.proofs.sector.copy_all_into.Goals as goal

pub returns : goal.returns
returns g c = put_mid-sectors _ _ (g.S.Source.bytes c.args.from.now) c.args.first _ _
    c.copy_to.ensures refl (omega arith)
