use Rattle.block_device.proofs.OneService.{at_most_one_exact_service}
use Rattle.block_device.proofs.laws.at_most_one_exact_service.Goals as goal

pub returns : goal.returns
returns c = at_most_one_exact_service
