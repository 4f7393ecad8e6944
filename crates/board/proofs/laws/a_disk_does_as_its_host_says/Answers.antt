use Rattle.board.proofs.HostedDisks.{says}
use Rattle.board.proofs.laws.a_disk_does_as_its_host_says.Goals as goal

pub returns : goal.returns
returns g c = says
