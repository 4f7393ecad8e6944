use Rattle.board.proofs.Alone.{alone}
use Rattle.board.proofs.laws.each_guest_is_alone.Goals as goal

pub returns : goal.returns
returns g c = λ guest old new moves. alone guest old moves new
