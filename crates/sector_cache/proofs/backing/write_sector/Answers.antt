use Rattle.std.proofs.Common.{◌+◌, ◌*◌, rules}
use Rattle.sector_cache.proofs.Filed.{put_nothing}
use Rattle.sector_cache.proofs.Stops.{touches_anywhere, touches_more}
use Rattle.sector_cache.proofs.backing.write_sector.Goals as goal

pub returns-in_err-length-clause-put : goal.returns-in_err-length-clause-put
returns-in_err-length-clause-put g c = put_nothing _ _ _ _ _ (search rules) c.length.ensures.stays

pub returns-in_err-length-clause-touches : goal.returns-in_err-length-clause-touches
returns-in_err-length-clause-touches g c =
    touches_anywhere (512 * c.args.sector) (512 * (c.args.sector + 1)) c.length.ensures.touches

pub returns-clause-touches : goal.returns-clause-touches
returns-clause-touches g c =
    touches_more (512 * c.args.sector) (512 * (c.args.sector + 1))
    (touches_anywhere (512 * c.args.sector) (512 * (c.args.sector + 1)) c.length.ensures.touches)
    c.write_whole.ensures.touches
