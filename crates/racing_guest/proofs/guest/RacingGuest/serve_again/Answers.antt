use Rattle.shared_memory.specs.Sightings.{memory}
use Rattle.racing_guest.proofs.Routing.{beside_console}
use Rattle.racing_guest.proofs.guest.RacingGuest.serve_again.Goals as goal

pub returns-in-Receive-clause-sound : goal.returns-in-Receive-clause-sound
returns-in-Receive-clause-sound g c =
    beside_console c.self.inside.block c.self.inside.console c.args.self.now c.self.view_is
    (memory (g.M.Shared.sightings c.args.mem.now)) (memory (g.M.Shared.sightings c.serve_receive.new.mem))
    c.serve_receive.ensures.range c.requires.sound c.serve_receive.new.self c.serve_receive.ensures.sound
