use Rattle.std.proofs.Common.{◌≡◌, map, take}
use Rattle.board.specs.Slot.{opened}
use Rattle.board.proofs.opening.open_all.Given as goal

abbrev pub invariant-loop-spec : goal.invariant-loop-spec
invariant-loop-spec g l = l.slots.items ≡ map opened (take l.spec-index l.specs)
