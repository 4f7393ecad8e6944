use Rattle.std.proofs.Common.{arith}
use Rattle.hexadecimal.proofs.BytePairs.{pair_computed}
use Rattle.hexadecimal.proofs.pairs.computed_pair.Goals as goal

pub returns : goal.returns
returns c = rw (c.from.ensures, c.from-2.ensures) (pair_computed c.args.byte (omega arith))
