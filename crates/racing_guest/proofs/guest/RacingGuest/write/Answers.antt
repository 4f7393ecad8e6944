use Rattle.shared_memory.specs.Sightings.{memory}
use Rattle.racing_guest.proofs.Routing.{beside_block, beside_console}
use Rattle.racing_guest.proofs.guest.RacingGuest.write.Goals as goal

pub returns-in-Block-clause-sound : goal.returns-in-Block-clause-sound
returns-in-Block-clause-sound g c =
    beside_block c.self.inside.block c.self.inside.console c.args.self.now c.self.view_is
    (memory (g.M.Shared.sightings c.args.mem.now)) (memory (g.M.Shared.sightings c.write.new.mem)) c.write.ensures.range
    c.requires.sound c.write.new.self c.write.ensures.sound

pub returns-in-Console-clause-sound : goal.returns-in-Console-clause-sound
returns-in-Console-clause-sound g c =
    beside_console c.self.inside.block c.self.inside.console c.args.self.now c.self.view_is
    (memory (g.M.Shared.sightings c.args.mem.now)) (memory (g.M.Shared.sightings c.write-in-Console.new.mem))
    c.write-in-Console.ensures.range c.requires.sound c.write-in-Console.new.self c.write-in-Console.ensures.sound
