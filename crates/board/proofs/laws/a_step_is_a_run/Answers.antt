use Rattle.board.proofs.Runs.{step_run}
use Rattle.board.proofs.laws.a_step_is_a_run.Goals as goal

pub returns : goal.returns
returns g c = step_run
