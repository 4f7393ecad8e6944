use Rattle.std.proofs.Common.{arith}
use Rattle.std.proofs.lemmas.Grind.{common_steps}
use Rattle.trace.proofs.read.choice.width_of.Goals as goal

pub returns-in-50-clause-parsed : goal.returns-in-50-clause-parsed
returns-in-50-clause-parsed c = (2, grind (arith, common_steps))

pub returns-in-52-clause-parsed : goal.returns-in-52-clause-parsed
returns-in-52-clause-parsed c = (4, grind (arith, common_steps))
