use Rattle.block_device.proofs.OneLook.{one_completion}
use Rattle.block_device.proofs.laws.one_completion.Goals as goal

pub returns : goal.returns
returns c = one_completion
