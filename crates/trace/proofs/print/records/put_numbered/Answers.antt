use Rattle.std.proofs.Common.{arith}
use Rattle.trace.proofs.Passing.{sends_same}
use Rattle.trace.proofs.RecordLines.{numbered_one, numbered_two}
use Rattle.trace.proofs.print.records.put_numbered.Goals as goal

pub returns-then-slot-lt16 : goal.returns-then-slot-lt16
returns-then-slot-lt16 g c =
    sends_same _ _ _ _ _ _ (numbered_one c.args.slot c.digit_of.result c.args.line.now (omega arith)
    c.requires c.digit_of.ensures) c.put.ensures

pub returns-else-slot-lt16 : goal.returns-else-slot-lt16
returns-else-slot-lt16 g c =
    sends_same _ _ _ _ _ _ (numbered_two c.args.slot c.digit_of.result c.args.line.now (omega arith)
    (omega arith) c.requires c.digit_of.ensures) c.put_behind_digit.ensures
