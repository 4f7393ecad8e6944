use Rattle.mmio_window.proofs.OnePiece.{piece_is_one}
use Rattle.mmio_window.proofs.laws.a_piece_has_one_outcome.Goals as goal

pub returns : goal.returns
returns g c = λ setup once decides stage budget q. piece_is_one (g.D.QueueHandler.device setup) once decides budget q stage
