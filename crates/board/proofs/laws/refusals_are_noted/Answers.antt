use Rattle.board.proofs.Noted.{line_noted}
use Rattle.board.proofs.laws.refusals_are_noted.Goals as goal

pub returns : goal.returns
returns g c = λ guest old new moves. line_noted guest old moves new
