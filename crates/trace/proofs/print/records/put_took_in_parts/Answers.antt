use Rattle.trace.proofs.Passing.{sends_more, sends_same}
use Rattle.trace.proofs.RecordLines.{took_is}
use Rattle.trace.proofs.print.records.put_took_in_parts.Goals as goal

pub returns : goal.returns
returns g c =
    sends_same _ _ _ _ _ _ (took_is c.args.slot c.args.count c.args.words)
    (sends_more _ _ _ _ _ _ _ _ c.put_slot.ensures
    (sends_more _ _ _ _ _ _ _ _ c.put.ensures
    (sends_more _ _ _ _ _ _ _ _ c.put_num.ensures
    (rw (c.digit_of-x.ensures, c.digit_of-y.ensures) at c.put-2.ensures))))
