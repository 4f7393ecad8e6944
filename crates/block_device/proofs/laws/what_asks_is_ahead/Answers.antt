use Rattle.mmio_window.specs.declared.stage.Stage.TheVariants.{First}
use Rattle.block_device.proofs.Held.{ahead_looked}
use Rattle.block_device.proofs.laws.what_asks_is_ahead.Goals as goal

pub returns : goal.returns
returns c = λ device old new asked looks held. ahead_looked device First old asked new looks held
