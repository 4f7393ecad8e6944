use Rattle.board.proofs.Runs.{runs_join}
use Rattle.board.proofs.laws.two_runs_are_one.Goals as goal

pub returns : goal.returns
returns g c = runs_join
