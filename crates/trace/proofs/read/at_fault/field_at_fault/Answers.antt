use Rattle.trace.proofs.FirstFault.{none_in, some_in}
use Rattle.trace.proofs.read.at_fault.field_at_fault.Goals as goal

pub returns-clause-some : goal.returns-clause-some
returns-clause-some c = some_in c.args.format _ _ _ _ _ c.nth_field.ensures c.behind_in.ensures c.fields_after-fields.ensures
    c.args.kind c.args.line.now _ c.first_at_fault.result c.in_ok-word.ensures.some c.take_field.ensures
    c.first_at_fault.ensures.some

pub returns-clause-none : goal.returns-clause-none
returns-clause-none c = λ nothing. none_in c.args.format _ _ _ _ _ c.nth_field.ensures c.behind_in.ensures
    c.fields_after-fields.ensures c.args.kind c.args.line.now _ c.in_ok-word.ensures.some c.take_field.ensures
    (c.first_at_fault.ensures.none nothing)
