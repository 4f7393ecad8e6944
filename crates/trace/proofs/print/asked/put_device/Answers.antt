use Rattle.trace.proofs.Passing.{sends_more}
use Rattle.trace.proofs.print.asked.put_device.Goals as goal

pub returns-in-Some : goal.returns-in-Some
returns-in-Some g c =
    rw c.in-Some.is (sends_more _ _ _ _ _ _ _ _ (rw c.from.ensures at c.put_num.ensures) c.put.ensures)
