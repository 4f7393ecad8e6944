use Rattle.board.proofs.Honest.{honest}
use Rattle.board.proofs.laws.an_honest_host_serves.Goals as goal

pub returns : goal.returns
returns g c = honest
