use Rattle.shared_memory.specs.Sightings.{memory}
use Rattle.racing_guest.proofs.Routing.{beside_console}
use Rattle.racing_guest.proofs.guest.RacingGuest.input.Goals as goal

pub returns-clause-sound : goal.returns-clause-sound
returns-clause-sound g c =
    beside_console c.self.inside.block c.self.inside.console c.args.self.now c.self.view_is
    (memory (g.M.Shared.sightings c.args.mem.now)) (memory (g.M.Shared.sightings c.serve_receive-progress.new.mem))
    c.serve_receive-progress.ensures.range c.requires.sound c.serve_receive-progress.new.self
    c.serve_receive-progress.ensures.sound
