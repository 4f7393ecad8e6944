use Rattle.hexadecimal.proofs.Numbers.{Reads}
use Rattle.hexadecimal.proofs.number_field.number.Given as goal

-- what the bytes so far say
abbrev pub invariant-loop-i : goal.invariant-loop-i
invariant-loop-i l = Reads l.field l.i l.n
