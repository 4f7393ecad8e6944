use Rattle.racing_disk.proofs.Telling.{zeroed_on_disk}
use Rattle.racing_disk.proofs.laws.what_is_zeroed_lies_on_the_disk.Goals as goal

pub returns : goal.returns
returns c = zeroed_on_disk
