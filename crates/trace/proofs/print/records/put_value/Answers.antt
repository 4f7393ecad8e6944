use Rattle.std.proofs.Common.{◌∙◌}
use Rattle.trace.proofs.Passing.{sends_same}
use Rattle.trace.proofs.RecordLines.{value_line}
use Rattle.trace.proofs.print.records.put_value.Goals as goal

pub returns : goal.returns
returns g c =
    sends_same _ _ _ _ _ _
    (value_line c.args.slot c.args.value _ _ c.args.words _ (c.copy_from_slice.ensures.after
    ∙ c.eight_digits.ensures) c.digit_of.ensures c.digit_of-2.ensures)
    c.put_numbered.ensures
