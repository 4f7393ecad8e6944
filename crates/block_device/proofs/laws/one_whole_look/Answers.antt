use Rattle.mmio_window.specs.declared.stage.Stage.TheVariants.{First}
use Rattle.block_device.proofs.WholeLooks.{looks_once}
use Rattle.block_device.proofs.laws.one_whole_look.Goals as goal

pub returns : goal.returns
returns c = λ device old one other asked others x y.
    let same = looks_once device First old asked others one other x y in (same.asked_is, same.queue)
