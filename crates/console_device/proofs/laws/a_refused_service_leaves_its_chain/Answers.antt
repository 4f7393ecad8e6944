use Rattle.chain.proofs.Servicing.{refused_service}
use Rattle.mmio_window.specs.Queue.{queue_kind}
use Rattle.console_device.specs.Device.{transmit}
use Rattle.console_device.proofs.laws.a_refused_service_leaves_its_chain.Goals as goal

pub returns : goal.returns
returns c = refused_service queue_kind transmit
