use Rattle.board.proofs.OneRun.{next_once}
use Rattle.board.proofs.laws.one_outcome.Goals as goal

pub returns : goal.returns
returns g c = next_once
