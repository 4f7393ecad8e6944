use Rattle.mmio_window.specs.Queue.{queue_kind}
use Rattle.entropy_device.proofs.Services.{all_handed_out}
use Rattle.entropy_device.proofs.laws.each_byte_has_one_place.Goals as goal

pub returns : goal.returns
returns c = all_handed_out queue_kind
