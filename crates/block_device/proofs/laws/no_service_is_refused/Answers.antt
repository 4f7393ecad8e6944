use Rattle.block_device.proofs.Exact.{service_not_refused}
use Rattle.block_device.proofs.laws.no_service_is_refused.Goals as goal

pub returns : goal.returns
returns c = service_not_refused
