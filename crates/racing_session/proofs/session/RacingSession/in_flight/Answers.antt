use Rattle.racing_session.proofs.Calling.{sound_for_each}
use Rattle.guest_memory.specs.Pages.{bits_of}
use Rattle.racing_session.proofs.session.RacingSession.in_flight.Goals as goal

pub returns-clause-sound : goal.returns-clause-sound
returns-clause-sound g c =
    let s = c.self.inside in
    sound_for_each s.guest s.memory (bits_of s.pages.items) s.output s.due s.limits s.further c.args.self.now c.self.view_is c.self.invariant.0
