use Rattle.racing_ring.proofs.Walking.{LookedUp}
use Rattle.racing_ring.proofs.walk.append_path.Given as goal

abbrev pub invariant-loop-count : goal.invariant-loop-count
invariant-loop-count g l =
    LookedUp g.M.Shared.races (g.M.Shared.sightings l.fn.mem) (g.M.Shared.sightings l.mem) l.table.addr l.table.size
    l.head l._count l.index l.room.known l.chain
