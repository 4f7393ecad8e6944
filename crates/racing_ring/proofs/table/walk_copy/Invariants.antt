use Rattle.indirect.specs.Descriptors.{split_table}
use Rattle.indirect.specs.Walks.{Reached}
use Rattle.shared_memory.specs.Sightings.{memory}
use Rattle.racing_ring.proofs.table.walk_copy.Given as goal

abbrev pub invariant-loop-count : goal.invariant-loop-count
invariant-loop-count g l = Reached (memory (g.M.Shared.sightings l.mem)) l.fn.chain
    (split_table (memory (g.M.Shared.sightings l.mem)) l.addr) l.entries 0 l._count l.index l.chain
