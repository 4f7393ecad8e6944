use Rattle.session.proofs.Noted.{line_noted}
use Rattle.session.proofs.lines.refusals_are_noted.Goals as goal

pub returns : goal.returns
returns g c = line_noted
