-- The list that held the later bytes holds the first ones.
use Rattle.std.proofs.Common.{ap, arith}
use Rattle.std.specs.Vec.{vec_len}
use Rattle.output_queue.proofs.Parts.{left_later}
use Rattle.output_queue.proofs.queue.OutputQueue.skip.Goals as goal

pub returns-else-count-of_first : goal.returns-else-count-of_first
returns-else-count-of_first g c =
    let o = c.self.inside in
    rw (
      ← c.self.view_is,
      c.swap.ensures.x_after,
      c.swap.ensures.y_after,
      c.clear.ensures.items,
      c.len.ensures,
    )
    (ap (λ bytes. record { bytes = bytes; limit = o.limit })
    (left_later o.first.items o.later.items o.start c.args.count (vec_len o.first)
    (omega arith) (omega arith)))
