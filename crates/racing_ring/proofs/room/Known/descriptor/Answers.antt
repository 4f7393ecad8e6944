use Rattle.std.proofs.Common.{arith}
use Rattle.racing_ring.proofs.Knowing.{looked_fresh}
use Rattle.racing_ring.proofs.room.Known.descriptor.Goals as goal

pub returns-in-None-clause-looked : goal.returns-in-None-clause-looked
returns-in-None-clause-looked g c =
    rw (← c.self.view_is) (looked_fresh (g.M.Shared.sightings c.args.mem.now).now
    (g.M.Shared.sightings c.read-descriptor.new.mem) c.args.addr c.self.inside.known c.args.index c.from-at.result
    c.read-descriptor.result _ c.from-at.ensures (omega arith) c.in-None.is
    (rw c.from.ensures at c.read-descriptor.ensures.seen))
