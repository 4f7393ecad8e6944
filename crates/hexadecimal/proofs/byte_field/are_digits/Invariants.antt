use Rattle.std.proofs.Common.{take, All, IsTrue, ◌↔◌}
use Rattle.hexadecimal.specs.Fields.{IsDigit}
use Rattle.hexadecimal.proofs.byte_field.are_digits.Given as goal

-- whether the bytes so far are digits
abbrev pub invariant-loop-c : goal.invariant-loop-c
invariant-loop-c l = IsTrue l.all ↔ All IsDigit (take l.c-index l.field)
