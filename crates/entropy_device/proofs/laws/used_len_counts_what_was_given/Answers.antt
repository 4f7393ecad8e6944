use Rattle.entropy_device.proofs.Filling.{used_len-filled}
use Rattle.entropy_device.proofs.laws.used_len_counts_what_was_given.Goals as goal

pub returns : goal.returns
returns c = used_len-filled
