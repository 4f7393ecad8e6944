use Rattle.trace.proofs.Passing.{sends_more}
use Rattle.trace.proofs.print.asked.put_begun.Goals as goal

pub returns : goal.returns
returns g c =
    sends_more _ _ _ _ _ _ _ _ (rw c.sign_before.ensures at c.put.ensures)
    (sends_more _ _ _ _ _ _ _ _ c.put_device.ensures
    (sends_more _ _ _ _ _ _ _ _ (rw c.from.ensures at c.put_num.ensures)
    (sends_more _ _ _ _ _ _ _ _ c.put-2.ensures c.put_operation.ensures)))
