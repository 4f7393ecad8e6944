use Rattle.board.proofs.Identities.{line_named}
use Rattle.board.proofs.laws.identities_stay.Goals as goal

pub returns : goal.returns
returns g c = line_named
