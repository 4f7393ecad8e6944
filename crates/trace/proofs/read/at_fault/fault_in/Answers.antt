use Rattle.trace.proofs.FirstFault.{bytes_refused}
use Rattle.trace.proofs.read.at_fault.fault_in.Goals as goal

pub returns-else-not-all_say-2 : goal.returns-else-not-all_say-2
returns-else-not-all_say-2 c =
    bytes_refused c.args.format c.args.word _ _ _ _ c.nth_field-width.ensures c.behind_in.ensures c.fields_after-fields.ensures
    c.requires (c.are_as_many.ensures.0 c.if-not-are_as_many.false)
    (c.all_say.ensures.0 c.if-not-all_say.false)
    (c.all_say-else-not-all_say.ensures.0 c.if-not-all_say-2.false)
