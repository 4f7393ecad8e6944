use Rattle.trace.proofs.Passing.{sends_more}
use Rattle.trace.proofs.print.records.put_reply.Goals as goal

pub returns-in-Bytes : goal.returns-in-Bytes
returns-in-Bytes g c = rw c.in-Bytes.is
    (sends_more _ _ _ _ _ _ _ _ c.put-in-Bytes.ensures (rw c.as_slice.ensures at c.put_bytes.ensures))

pub returns-in-Took : goal.returns-in-Took
returns-in-Took g c = rw c.in-Took.is (sends_more _ _ _ _ _ _ _ _ c.put-in-Took.ensures c.put_num.ensures)

pub returns-in-Value : goal.returns-in-Value
returns-in-Value g c =
    rw c.in-Value.is (sends_more _ _ _ _ _ _ _ _ c.put.ensures
    (rw c.eight_digits.ensures at c.put-in-Value.ensures))
