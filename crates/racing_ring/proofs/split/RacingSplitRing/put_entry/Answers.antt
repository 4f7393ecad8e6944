use Rattle.split_ring.specs.Ring.{LiesIn}
use Rattle.shared_memory.specs.Sightings.{memory}
use Rattle.racing_ring.proofs.Lying.{entry_inside}
use Rattle.racing_ring.proofs.split.RacingSplitRing.put_entry.Goals as goal

pub store_u64-requires : goal.store_u64-requires
store_u64-requires g c =
    let ring = c.self.inside.state in
    let m = memory (g.M.Shared.sightings c.args.mem.now) in
    let lies : LiesIn m ring.setup = rw c.self.view_is c.requires in
    entry_inside m ring.setup c.entry_at-offset.result lies (rw c.self.view_is c.entry_at-offset.ensures.below)
