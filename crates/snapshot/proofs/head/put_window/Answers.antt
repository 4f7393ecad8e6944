use Rattle.std.proofs.Common.{rules}
use Rattle.snapshot.specs.Spelling.{window}
use Rattle.snapshot.proofs.Joining.{puts_then}
use Rattle.snapshot.proofs.head.put_window.Goals as goal

pub returns-clause-puts : goal.returns-clause-puts
unfolding window
returns-clause-puts c =
    let negotiation = puts_then c.put_u64.ensures.puts
    (puts_then c.put_u8.ensures.puts c.put_u64-2.ensures.puts) in
    let selectors = puts_then c.put_u32.ensures.puts
    (puts_then c.put_u32-2.ensures.puts
    (puts_then c.put_u32-3.ensures.puts c.put_u32-4.ensures.puts)) in
    let queues = puts_then c.put_queue.ensures.puts c.put_queue-2.ensures.puts in
    puts_then (puts_then negotiation selectors) (puts_then queues
    (puts_then (rw c.bits.ensures at c.put_u8-2.ensures.puts) c.put_u32-5.ensures.puts))

pub returns-clause-fits : goal.returns-clause-fits
returns-clause-fits c = (
  ((search rules, (c.put_u8.ensures.fits, search rules)), search rules),
  ((c.put_queue.ensures.fits, c.put_queue-2.ensures.fits), search rules),
)
