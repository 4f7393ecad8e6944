use Rattle.trace.proofs.Sofar.{parsed_added}
use Rattle.trace.proofs.read.add_line.Goals as goal

pub returns-in-Ok-add_event-clause-ok : goal.returns-in-Ok-add_event-clause-ok
returns-in-Ok-add_event-clause-ok g c =
    parsed_added _ c.args.line.now c.in-Ok-Event.parsed _
    (rw c.in-Ok-Event.field-0-is at c.in-Ok-Event.ensures.ok)
    (rw c.in-Ok-Event.field-0-is at c.in-Ok-Event.ensures.fine).1 c.in-Ok-add_event.ensures
