use Rattle.std.proofs.Common.{arith}
use Rattle.trace.proofs.Passing.{sends_same}
use Rattle.trace.proofs.RecordLines.{took_two}
use Rattle.trace.proofs.print.records.put_took.Goals as goal

pub returns : goal.returns
returns g c =
    sends_same _ _ _ _ _ _ (rw (c.digit_of-3.ensures, c.digit_of-4.ensures)
    (took_two c.args.slot c.args.count c.digit_of.result c.digit_of-2.result c.args.words (omega arith)
    (omega arith)
    c.digit_of.ensures c.digit_of-2.ensures))
    c.put_numbered.ensures
