use Rattle.board.proofs.Alone.{alone_as_it_may}
use Rattle.board.proofs.laws.each_guest_is_alone_whatever_it_meets.Goals as goal

pub returns : goal.returns
returns g c = λ guest old new moves state line there. alone_as_it_may guest old moves new line state there
