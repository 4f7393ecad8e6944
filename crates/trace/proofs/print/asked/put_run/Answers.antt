use Rattle.trace.proofs.Passing.{sends_more}
use Rattle.trace.proofs.print.asked.put_run.Goals as goal

pub returns : goal.returns
returns g c = sends_more _ _ _ _ _ _ _ _ c.put_num.ensures
    (sends_more _ _ _ _ _ _ _ _ c.put.ensures (rw c.from.ensures at c.put_num-2.ensures))
