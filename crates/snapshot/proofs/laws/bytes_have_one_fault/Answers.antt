use Rattle.snapshot.proofs.First.{first_fault_once}
use Rattle.snapshot.proofs.laws.bytes_have_one_fault.Goals as goal

pub returns : goal.returns
returns c = first_fault_once
