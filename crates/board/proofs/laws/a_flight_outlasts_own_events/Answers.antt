use Rattle.board.proofs.Waiting.{outlasts}
use Rattle.board.proofs.laws.a_flight_outlasts_own_events.Goals as goal

pub returns : goal.returns
returns g c = outlasts
