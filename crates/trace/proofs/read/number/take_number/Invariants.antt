use Rattle.std.proofs.Common.{◌<◌}
use Rattle.hexadecimal.proofs.Numbers.{Reads}
use Rattle.trace.proofs.read.number.take_number.Given as goal

-- what the bytes so far say, and the first isn't 0
abbrev pub invariant-loop-i : goal.invariant-loop-i
invariant-loop-i l = Reads l.line l.i l.n × (0 < l.i → 0 < l.n)
