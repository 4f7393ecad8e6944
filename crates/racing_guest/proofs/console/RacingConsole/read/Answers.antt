use Rattle.std.proofs.Common.{List, ℕ, ◌∙◌, ap}
use Rattle.mmio_window.specs.Reading.{read_value}
use Rattle.racing_guest.specs.Console.{console_register}
use Rattle.racing_guest.proofs.console.RacingConsole.read.Goals as goal

pub returns : goal.returns
returns g c =
    c.read.ensures
    ∙ ap (λ (config : List ℕ). read_value c.args.offset c.args.width config c.self.inside.window) c.config.ensures
    ∙ ap (console_register c.args.offset c.args.width) c.self.view_is
