use Rattle.mmio_window.specs.Queue.{queue_kind}
use Rattle.entropy_device.proofs.Services.{gets_a_byte}
use Rattle.entropy_device.proofs.laws.each_chain_gets_a_byte.Goals as goal

pub returns : goal.returns
returns c = gets_a_byte queue_kind
