use Rattle.std.proofs.Common.{rules}
use Rattle.replay.proofs.Begun.{takes_lowest}
use Rattle.replay.proofs.asking.take_one.Goals as goal

pub returns : goal.returns
returns c = takes_lowest c.args.tags (search rules) c.requires
