use Rattle.trace.proofs.Unique.{one_fault}
use Rattle.trace.proofs.laws.one_fault.Goals as goal

pub returns : goal.returns
returns c = one_fault
