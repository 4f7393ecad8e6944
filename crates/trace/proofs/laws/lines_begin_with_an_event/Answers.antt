use Rattle.trace.proofs.EventLines.{begins_at}
use Rattle.trace.proofs.laws.lines_begin_with_an_event.Goals as goal

pub returns : goal.returns
returns g c = begins_at
