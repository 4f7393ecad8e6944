use Rattle.racing_session.proofs.Calling.{tells_inside}
use Rattle.guest_memory.specs.Pages.{bits_of}
use Rattle.racing_session.proofs.session.RacingSession.runs.Goals as goal

pub returns-clause-inside : goal.returns-clause-inside
returns-clause-inside g c =
    let s = c.self.inside in
    tells_inside s.guest s.memory (bits_of s.pages.items) s.output s.due s.limits s.further c.args.self.now c.self.view_is c.self.invariant.0 c.args.tag
    c.runs.result.now c.runs.ensures
