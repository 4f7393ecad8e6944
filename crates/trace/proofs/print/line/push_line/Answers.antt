use Rattle.std.proofs.Common.{arith}
use Rattle.trace.specs.Spelling.{field_text}
use Rattle.trace.specs.Words.{spelled}
use Rattle.trace.proofs.Printed.{line_more}
use Rattle.trace.proofs.print.line.push_line.Goals as goal

pub loop-field-preserved : goal.loop-field-preserved
loop-field-preserved g c =
    line_more (field_text c.args.fields.now) c.args.out.now.items (spelled c.args.word) _ _ _
    c.fields_after-row.result.now c.loop-field.field-index _ (omega arith) c.loop-field.invariant
    c.in_ok-push.ensures.items c.in_ok-push_field.ensures
