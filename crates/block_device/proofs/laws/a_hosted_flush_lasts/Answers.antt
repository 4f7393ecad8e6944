use Rattle.block_device.proofs.Durable.{word_lasts}
use Rattle.block_device.proofs.laws.a_hosted_flush_lasts.Goals as goal

pub returns : goal.returns
returns c = word_lasts
