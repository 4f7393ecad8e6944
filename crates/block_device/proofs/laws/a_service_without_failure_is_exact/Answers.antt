use Rattle.block_device.proofs.Exact.{service_exact}
use Rattle.block_device.proofs.laws.a_service_without_failure_is_exact.Goals as goal

pub returns : goal.returns
returns c = service_exact
