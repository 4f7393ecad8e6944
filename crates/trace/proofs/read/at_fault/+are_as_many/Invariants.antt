use Rattle.std.proofs.Common.{length}
use Rattle.trace.proofs.read.at_fault.+are_as_many.Given as goal

abbrev pub decreases-are_as_many : goal.decreases-are_as_many
decreases-are_as_many l = length l.fields.now
