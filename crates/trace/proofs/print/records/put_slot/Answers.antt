use Rattle.std.proofs.Common.{sym, arith}
use Rattle.trace.proofs.Fronts.{one_digit}
use Rattle.trace.proofs.Passing.{sends_same}
use Rattle.trace.proofs.RecordLines.{two_digits}
use Rattle.trace.proofs.print.records.put_slot.Goals as goal

pub returns-then-slot-lt16 : goal.returns-then-slot-lt16
returns-then-slot-lt16 g c =
    sends_same _ _ _ _ _ _ (one_digit c.args.slot c.digit_of.result _ (omega arith) (sym c.digit_of.ensures))
    c.put.ensures

pub returns-else-slot-lt16 : goal.returns-else-slot-lt16
returns-else-slot-lt16 g c =
    sends_same _ _ _ _ _ _
    (two_digits c.args.slot c.digit_of-else-slot-lt16.result c.digit_of-else-slot-lt16-2.result _ (omega arith)
    (omega arith) c.digit_of-else-slot-lt16.ensures c.digit_of-else-slot-lt16-2.ensures)
    c.put-else-slot-lt16.ensures
