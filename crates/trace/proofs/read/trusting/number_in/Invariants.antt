use Rattle.std.proofs.Common.{length, ◌-◌}
use Rattle.trace.proofs.TrustedNumbers.{NumberSoFar}
use Rattle.trace.proofs.read.trusting.number_in.Given as goal

-- what the bytes so far say
abbrev pub invariant-loop-i : goal.invariant-loop-i
invariant-loop-i l = NumberSoFar l.text l.i l.n

abbrev pub decreases-loop-i : goal.decreases-loop-i
decreases-loop-i l = length l.text - l.i
