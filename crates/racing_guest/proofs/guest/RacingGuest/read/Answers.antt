use Rattle.racing_guest.proofs.Routing.{reads_block, reads_console}
use Rattle.racing_guest.proofs.guest.RacingGuest.read.Goals as goal

pub returns-in-Block : goal.returns-in-Block
returns-in-Block g c =
    reads_block c.self.inside.block c.self.inside.console c.args.self.now c.self.view_is c.args.window c.args.offset
    c.args.width c.read.result c.in-Block.is c.read.ensures

pub returns-in-Console : goal.returns-in-Console
returns-in-Console g c =
    reads_console c.self.inside.block c.self.inside.console c.args.self.now c.self.view_is c.args.window c.args.offset
    c.args.width c.read-in-Console.result c.in-Console.is c.read-in-Console.ensures
