use Rattle.board.proofs.OnePiece.{comes_once}
use Rattle.board.proofs.laws.a_piece_of_a_slot_has_one_outcome.Goals as goal

pub returns : goal.returns
returns g c = comes_once
