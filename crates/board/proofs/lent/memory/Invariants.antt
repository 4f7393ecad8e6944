use Rattle.std.proofs.Common.{map}
use Rattle.std.specs.Vec.{vec_items}
use Rattle.std.specs.Vec.Iter.{into_iter_items}
use Rattle.board.proofs.Loans.{Took}
use Rattle.board.proofs.lent.memory.Given as goal

abbrev pub invariant-loop-region : goal.invariant-loop-region
invariant-loop-region g l =
    Took l.regions (map vec_items (into_iter_items l.fn.bytes)) l.region-index l.made.items
    (map vec_items (into_iter_items l.bytes))
