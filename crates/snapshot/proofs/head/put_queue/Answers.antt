use Rattle.snapshot.specs.Spelling.{queue}
use Rattle.snapshot.proofs.Joining.{puts_then}
use Rattle.snapshot.proofs.head.put_queue.Goals as goal

pub returns-clause-puts : goal.returns-clause-puts
unfolding queue
returns-clause-puts c =
    puts_then c.put_u32.ensures.puts
    (puts_then c.put_u64.ensures.puts
    (puts_then c.put_u64-2.ensures.puts (puts_then c.put_u64-3.ensures.puts c.put_reached.ensures.puts)))
