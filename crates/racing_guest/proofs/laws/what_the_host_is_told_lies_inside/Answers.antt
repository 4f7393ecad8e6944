use Rattle.racing_guest.proofs.Holding.{told_inside}
use Rattle.racing_guest.proofs.laws.what_the_host_is_told_lies_inside.Goals as goal

pub returns : goal.returns
returns c = told_inside
