use Rattle.racing_guest.proofs.Telling.{reads_register}
use Rattle.racing_guest.proofs.block.RacingBlock.read.Goals as goal

pub returns : goal.returns
returns g c =
    reads_register c.args.offset c.args.width c.read.result c.config-config.result c.device.result.now c.self.inside.window
    c.self.inside.disk c.args.self.now c.read.ensures c.config-config.ensures c.device.ensures c.self.view_is
