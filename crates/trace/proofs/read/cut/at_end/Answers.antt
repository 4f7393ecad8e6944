use Rattle.trace.proofs.Taking.{not_ended}
use Rattle.trace.proofs.read.cut.at_end.Goals as goal

pub returns-in-Some-clause-none : goal.returns-in-Some-clause-none
returns-in-Some-clause-none c = rw c.in-Some.is (not_ended c.in-Some.field-0.now)
