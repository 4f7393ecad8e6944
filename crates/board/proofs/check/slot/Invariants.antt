use Rattle.std.proofs.Common.{take}
use Rattle.std.specs.Prelude.{All}
use Rattle.board.specs.Extent.{IsApart}
use Rattle.board.specs.Fault.{share}
use Rattle.board.proofs.check.slot.Given as goal

abbrev pub invariant-loop-other : goal.invariant-loop-other
invariant-loop-other l = All (λ other. IsApart (share other) (share l.spec)) (take l.other-index l.earlier)
