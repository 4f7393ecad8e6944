use Rattle.mmio_window.specs.declared.stage.Stage.TheVariants.{First}
use Rattle.block_device.proofs.OneLook.{one_look}
use Rattle.block_device.proofs.laws.one_look.Goals as goal

pub returns : goal.returns
returns c = λ device. one_look device First
