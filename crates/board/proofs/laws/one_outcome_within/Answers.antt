use Rattle.board.proofs.OneSeat.{seat_once}
use Rattle.board.proofs.laws.one_outcome_within.Goals as goal

pub returns : goal.returns
returns g c = seat_once
