use Rattle.std.proofs.Common.{refl, inl}
use Rattle.trace.proofs.Validations.{first_event_validated}
use Rattle.trace.proofs.read.validating.Validated.validate_first.Goals as goal

pub returns-in-Some-clause-ok : goal.returns-in-Some-clause-ok
returns-in-Some-clause-ok g c =
    let skipped = c.in-Some.ensures in
    first_event_validated c.args.text.now c.in-Some.after.now c.args.line skipped.parsed _ _
    skipped.taken.line skipped.taken.fine skipped.taken.each c.requires.numbered
    (rw skipped.spelled at c.count.ensures)

pub returns-in_default-take_line-clause-err : goal.returns-in_default-take_line-clause-err
returns-in_default-take_line-clause-err g c =
    λ known. inl (record { last = c.in_default-take_line.ensures.none; named = refl })
