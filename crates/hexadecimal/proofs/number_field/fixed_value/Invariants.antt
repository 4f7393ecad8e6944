use Rattle.hexadecimal.proofs.Numbers.{ReadsFixed}
use Rattle.hexadecimal.proofs.number_field.fixed_value.Given as goal

-- what the bytes so far say
abbrev pub invariant-loop-c : goal.invariant-loop-c
invariant-loop-c l = ReadsFixed l.field l.c-index l.n
