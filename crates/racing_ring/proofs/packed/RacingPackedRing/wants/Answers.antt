use Rattle.packed_ring.specs.Ring.{LiesIn}
use Rattle.shared_memory.specs.Sightings.{memory}
use Rattle.shared_memory.proofs.Sightings.{inside_loads}
use Rattle.racing_ring.proofs.packed.RacingPackedRing.wants.Goals as goal

pub returns-clause-wants : goal.returns-clause-wants
returns-clause-wants g c =
    let setup = c.self.inside.state.setup in
    let lies : LiesIn (memory (g.M.Shared.sightings c.args.mem.now)) setup = rw c.self.view_is c.requires in
    let inside = inside_loads _ _ _ setup.driver 4 c.load.ensures.loads lies.driver in
    let wants = c.packed_wants_by.ensures (memory (g.M.Shared.sightings c.load.new.self)) setup.driver inside
    c.load.ensures.value in
    rw (c.size.ensures.value, c.first_passed.ensures.value, c.self.view_is) at wants
