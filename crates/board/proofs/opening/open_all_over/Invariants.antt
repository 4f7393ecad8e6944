use Rattle.std.proofs.Common.{map}
use Rattle.std.specs.Vec.{vec_items}
use Rattle.std.specs.Vec.Iter.{into_iter_items}
use Rattle.board.proofs.Loans.{Opened}
use Rattle.board.specs.Lent.{opened_over}
use Rattle.board.proofs.opening.open_all_over.Given as goal

abbrev pub invariant-loop-spec : goal.invariant-loop-spec
invariant-loop-spec g l =
    Opened opened_over l.specs (map vec_items l.fn.bytes.items) l.spec-index l.slots.items
    (map vec_items (into_iter_items l.rest))
