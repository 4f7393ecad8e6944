use Rattle.std.proofs.Common.{length}
use Rattle.trace.proofs.read.at_fault.+first_at_fault.Given as goal

abbrev pub decreases-first_at_fault : goal.decreases-first_at_fault
decreases-first_at_fault l = length l.fields.now
