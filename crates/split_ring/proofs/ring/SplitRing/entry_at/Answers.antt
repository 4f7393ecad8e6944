use Rattle.std.proofs.Common.{◌∙◌, ap, ◌%◌, ℕ}
use Rattle.split_ring.proofs.Masks.{masked}
use Rattle.split_ring.proofs.ring.SplitRing.entry_at.Goals as goal

pub returns-clause-value : goal.returns-clause-value
returns-clause-value c =
    c.from.ensures ∙ (masked c.args.place c.size.result c.size.ensures.queue_size
    ∙ ap (λ (n : ℕ). c.args.place % n) c.size.ensures.value)
