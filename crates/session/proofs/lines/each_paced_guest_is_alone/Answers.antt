use Rattle.session.proofs.PacedAlone.{alone}
use Rattle.session.proofs.lines.each_paced_guest_is_alone.Goals as goal

pub returns : goal.returns
returns g c = alone
