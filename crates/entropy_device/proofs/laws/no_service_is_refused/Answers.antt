use Rattle.mmio_window.specs.Queue.{queue_kind}
use Rattle.entropy_device.proofs.Services.{not_refused}
use Rattle.entropy_device.proofs.laws.no_service_is_refused.Goals as goal

pub returns : goal.returns
returns c = not_refused queue_kind
