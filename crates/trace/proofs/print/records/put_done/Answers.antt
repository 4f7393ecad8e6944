use Rattle.std.proofs.Common.{codes}
use Rattle.trace.proofs.Passing.{sends_same}
use Rattle.trace.proofs.RecordLines.{quiet_is}
use Rattle.trace.proofs.print.records.put_done.Goals as goal

pub returns : goal.returns
returns g c =
    sends_same _ _ _ _ _ _ (rw (c.digit_of.ensures, c.digit_of-2.ensures)
    (quiet_is c.args.slot (codes "done") c.args.words))
    c.put_numbered.ensures
