use Rattle.block_device.proofs.Held.{ahead_landed}
use Rattle.block_device.proofs.laws.what_stays_is_ahead.Goals as goal

pub returns : goal.returns
returns c = ahead_landed
