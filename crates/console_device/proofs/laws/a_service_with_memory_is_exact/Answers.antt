use Rattle.mmio_window.specs.Queue.{queue_kind}
use Rattle.console_device.proofs.Services.{receive_never_refused, transmit_exact}
use Rattle.console_device.proofs.laws.a_service_with_memory_is_exact.Goals as goal

pub returns-clause-receive : goal.returns-clause-receive
returns-clause-receive c = receive_never_refused queue_kind

pub returns-clause-transmit : goal.returns-clause-transmit
returns-clause-transmit c = transmit_exact queue_kind
