use Rattle.mmio_window.specs.Queue.{queue_kind}
use Rattle.console_device.proofs.Services.{receive_left}
use Rattle.console_device.proofs.laws.input_is_taken_from_the_front.Goals as goal

pub returns : goal.returns
returns c = receive_left queue_kind
