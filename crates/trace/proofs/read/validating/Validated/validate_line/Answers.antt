use Rattle.trace.proofs.Validations.{event_validated}
use Rattle.trace.proofs.read.validating.Validated.validate_line.Goals as goal

pub returns-in-Ok-Event-clause-ok : goal.returns-in-Ok-Event-clause-ok
returns-in-Ok-Event-clause-ok g c =
    event_validated _ c.args.begun c.args.this.now c.args.after.now c.args.line c.in-Ok-Event.parsed _ _
    (rw c.in-Ok-Event.field-0-is at c.in-Ok-Event.ensures.ok)
    (rw c.in-Ok-Event.field-0-is at c.in-Ok-Event.ensures.fine).0
    (rw c.in-Ok-Event.field-0-is at c.in-Ok-Event.ensures.fine).1 c.requires.numbered
    (rw c.spelled_len.ensures at c.count.ensures)
