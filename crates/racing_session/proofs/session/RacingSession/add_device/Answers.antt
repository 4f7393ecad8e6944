use Rattle.guest_memory.specs.Faults.{zeroed_regions}
use Rattle.racing_session.proofs.session.RacingSession.add_device.Goals as goal

pub invariant_of-self : goal.invariant_of-self
invariant_of-self g c =
    (c.self.invariant.0, c.add.ensures.sound (zeroed_regions c.self.inside.memory) c.self.invariant.1)
