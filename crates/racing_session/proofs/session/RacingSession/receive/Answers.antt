use Rattle.guest_memory.specs.Faults.{zeroed_regions}
use Rattle.racing_session.proofs.session.RacingSession.receive.Goals as goal

pub invariant_of-self-2 : goal.invariant_of-self-2
invariant_of-self-2 g c =
    (c.self.invariant.0, c.receive.ensures.sound (zeroed_regions c.self.inside.memory) c.self.invariant.1)
