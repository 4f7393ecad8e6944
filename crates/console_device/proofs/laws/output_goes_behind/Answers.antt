use Rattle.mmio_window.specs.Queue.{queue_kind}
use Rattle.console_device.proofs.Services.{goes_behind}
use Rattle.console_device.proofs.laws.output_goes_behind.Goals as goal

pub returns : goal.returns
returns c = goes_behind queue_kind
