use Rattle.indirect.proofs.Entries.{Gathered}
use Rattle.shared_memory.specs.Sightings.{memory}
use Rattle.racing_ring.proofs.packed.table.append_buffers.Given as goal

abbrev pub invariant-loop-index : goal.invariant-loop-index
invariant-loop-index g l = Gathered (memory (g.M.Shared.sightings l.mem)) l.addr l.fn.chain l.index l.chain
