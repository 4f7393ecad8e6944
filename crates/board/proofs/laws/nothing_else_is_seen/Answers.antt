use Rattle.board.proofs.Alone.{same_seen}
use Rattle.board.proofs.laws.nothing_else_is_seen.Goals as goal

pub returns : goal.returns
returns g c = same_seen
