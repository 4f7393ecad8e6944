use Rattle.board.proofs.OneRun.{one_run}
use Rattle.board.proofs.laws.a_guest_alone_has_one_run.Goals as goal

pub returns : goal.returns
returns g c = one_run
