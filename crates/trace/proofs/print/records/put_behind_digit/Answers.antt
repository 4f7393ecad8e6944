use Rattle.trace.proofs.Passing.{sends_more}
use Rattle.trace.proofs.print.records.put_behind_digit.Goals as goal

pub returns : goal.returns
returns g c = sends_more _ _ _ _ _ _ _ _ (rw c.digit_of.ensures at c.put.ensures) c.put-2.ensures
