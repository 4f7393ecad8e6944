use Rattle.std.proofs.Common.{arith}
use Rattle.racing_memory.proofs.Changing.{low_bytes}
use Rattle.racing_memory.proofs.word.split_number.Goals as goal

pub returns-clause-first : goal.returns-clause-first
returns-clause-first c = low_bytes c.args.v c.args.first (omega (arith, c.requires.most))
