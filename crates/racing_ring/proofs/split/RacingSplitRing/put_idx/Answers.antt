use Rattle.std.proofs.Common.{arith}
use Rattle.guest_memory.proofs.Ranges.{inside_part}
use Rattle.split_ring.specs.Ring.{LiesIn}
use Rattle.shared_memory.specs.Sightings.{memory}
use Rattle.racing_ring.proofs.split.RacingSplitRing.put_idx.Goals as goal

pub store_u16-requires : goal.store_u16-requires
store_u16-requires g c =
    let lies : LiesIn (memory (g.M.Shared.sightings c.args.mem.now)) c.self.inside.state.setup =
    rw c.self.view_is c.requires in
    inside_part lies.device (omega arith) (omega arith)

pub fits-requires : goal.fits-requires
fits-requires g c =
    let lies : LiesIn (memory (g.M.Shared.sightings c.args.mem.now)) c.self.inside.state.setup =
    rw c.self.view_is c.requires in
    inside_part lies.device (omega arith) (omega arith)
