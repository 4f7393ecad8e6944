-- What is moved out are the first bytes of both parts.
use Rattle.std.proofs.Common.{arith}
use Rattle.circular_buffer.proofs.Items.{copied_out}
use Rattle.output_queue.proofs.queue.OutputQueue.take.Goals as goal

pub returns-clause-moved : goal.returns-clause-moved
returns-clause-moved g c =
    let first = c.waiting.result.0.now in let later = c.waiting.result.1.now in
    let f = c.min-of_first.ensures in let b = c.min-of_later.ensures in
    rw (← c.waiting.ensures.parts) (copied_out first later c.args.into.now c.copy_from_slice.new.self
    c.copy_from_slice-2.new.self c.min-of_first.result c.min-of_later.result
    (omega arith) (λ some. omega arith) c.copy_from_slice.ensures.after c.copy_from_slice-2.ensures.after)
