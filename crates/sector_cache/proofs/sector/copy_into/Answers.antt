use Rattle.std.proofs.Common.{arith, refl, ◌∙◌, ap, List, ℕ}
use Rattle.sector_cache.specs.Sector.{with_sector}
use Rattle.sector_cache.proofs.Sectors.{put_mid-sector}
use Rattle.sector_cache.proofs.sector.copy_into.Goals as goal

pub returns : goal.returns
returns c =
    put_mid-sector _ _ c.args.sector _ _ refl (omega arith)
    ∙ ap (λ (new : List ℕ). with_sector c.args.bytes.now c.args.sector new) c.copy_from_slice.ensures.after
