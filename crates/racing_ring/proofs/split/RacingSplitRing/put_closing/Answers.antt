use Rattle.std.proofs.Common.{arith}
use Rattle.guest_memory.proofs.Ranges.{inside_part}
use Rattle.split_ring.specs.Ring.{LiesIn}
use Rattle.shared_memory.specs.Sightings.{memory}
use Rattle.racing_ring.proofs.Lying.{lies_stores}
use Rattle.racing_ring.proofs.split.RacingSplitRing.put_closing.Goals as goal

pub store_u16-requires : goal.store_u16-requires
store_u16-requires g c =
    let lies : LiesIn (memory (g.M.Shared.sightings c.args.mem.now)) c.self.inside.state.setup =
    rw c.self.view_is c.requires in
    inside_part lies.device (omega arith) (omega arith)

pub store_u16-requires-2 : goal.store_u16-requires-2
store_u16-requires-2 g c =
    let setup = c.self.inside.state.setup in
    let lies : LiesIn (memory (g.M.Shared.sightings c.args.mem.now)) setup = rw c.self.view_is c.requires in
    let after : LiesIn (memory (g.M.Shared.sightings c.store_u16.new.self)) setup =
    lies_stores g.M.Shared.races (g.M.Shared.sightings c.args.mem.now)
    (g.M.Shared.sightings c.store_u16.new.self) _ _ _ setup c.store_u16.ensures.stores lies in
    inside_part after.device (omega arith) (omega (arith, c.from-entries.ensures))
