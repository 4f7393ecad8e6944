use Rattle.std.proofs.Common.{◌+◌, length}
use Rattle.sector_cache.proofs.Stops.{touches_unknown}
use Rattle.sector_cache.proofs.backing.FileBackingFile.write_to.Goals as goal

pub returns-clause-touches : goal.returns-clause-touches
returns-clause-touches c = touches_unknown c.args.at (c.args.at + length c.args.from.now)
