use Rattle.board.specs.Fault.{GoodBelow}
use Rattle.board.proofs.check.check_slots.Given as goal

abbrev pub invariant-loop-i : goal.invariant-loop-i
invariant-loop-i l = GoodBelow l.sectors l.slots l.i
