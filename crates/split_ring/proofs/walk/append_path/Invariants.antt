use Rattle.std.proofs.Common.{[]}
use Rattle.indirect.specs.Descriptors.{split_table}
use Rattle.indirect.specs.Walks.{Reached}
use Rattle.split_ring.proofs.walk.append_path.Given as goal

abbrev pub invariant-loop-count : goal.invariant-loop-count
invariant-loop-count g l =
    Reached l.mem [] (split_table l.mem l.table.addr) l.table.size l.head l._count l.index l.chain
