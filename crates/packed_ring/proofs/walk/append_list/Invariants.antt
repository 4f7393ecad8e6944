use Rattle.std.proofs.Common.{◌<◌, []}
use Rattle.indirect.specs.Walks.{Reached}
use Rattle.packed_ring.specs.Ring.{ring_descriptor}
use Rattle.packed_ring.proofs.walk.append_list.Given as goal

abbrev pub invariant-loop-count : goal.invariant-loop-count
invariant-loop-count g l = record {
  walk : Reached l.mem [] (ring_descriptor l.mem l.table.addr l.table.size) l.table.size l.first
      l.count l.index l.chain;
  below : l.index < l.table.size;
}
