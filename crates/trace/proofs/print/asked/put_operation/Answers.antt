use Rattle.trace.proofs.Passing.{sends_more}
use Rattle.trace.proofs.print.asked.put_operation.Goals as goal

pub returns : goal.returns
returns g c =
    sends_more _ _ _ _ _ _ _ _ (rw c.kind_name.ensures at c.put.ensures)
    (sends_more _ _ _ _ _ _ _ _ (rw c.stable_name.ensures at c.put-2.ensures)
    (sends_more _ _ _ _ _ _ _ _ c.put-3.ensures
    (sends_more _ _ _ _ _ _ _ _ c.put_num.ensures
    (sends_more _ _ _ _ _ _ _ _ c.put-4.ensures
    (sends_more _ _ _ _ _ _ _ _ c.put_num-2.ensures
    (sends_more _ _ _ _ _ _ _ _ c.put-5.ensures c.put_runs.ensures))))))
