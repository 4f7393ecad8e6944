use Rattle.racing_disk.proofs.Standing.{completed_still}
use Rattle.racing_disk.proofs.laws.a_guest_that_stands_still_is_completed.Goals as goal

pub returns : goal.returns
returns g c = completed_still
