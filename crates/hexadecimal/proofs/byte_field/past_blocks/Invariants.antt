use Rattle.std.proofs.Common.{length, ◌-◌}
use Rattle.hexadecimal.proofs.Judging.{DigitsBefore}
use Rattle.hexadecimal.proofs.byte_field.past_blocks.Given as goal

-- the bytes so far are digits
abbrev pub invariant-loop-n : goal.invariant-loop-n
invariant-loop-n l = DigitsBefore l.text l.n

abbrev pub decreases-loop-n : goal.decreases-loop-n
decreases-loop-n l = length l.text - l.n
