use Rattle.std.proofs.Common.{◌≡◌, List, length, arith, ap, ◌∙◌}
use Rattle.std.specs.Prelude.{slice_set}
use Rattle.std.proofs.lemmas.List.{length-set}
use Rattle.chain.specs.declared.segment.Buffer.{Buffer}
use Rattle.chain.specs.Buffers.{buffer_of}
use Rattle.chain.proofs.Holding.{all_fits, held_more, refill_same}
use Rattle.chain.proofs.buffers.Chain.push_tested.Goals as goal

pub invariant_of-self : goal.invariant_of-self
invariant_of-self c =
    let b = buffer_of c.args.addr c.args.len c.args.writable in
    let same : c.as_mut_slice.result.now ≡ c.self.inside.room.items = c.as_mut_slice.ensures.value in
    let size : length (slice_set c.as_mut_slice.result.now c.self.inside.filled b)
    ≡ length c.self.inside.room.items =
    length-set c.as_mut_slice.result.now c.self.inside.filled b ∙ ap (λ (l : List Buffer). length l) same in
    held_more c.self.inside.room.items _ c.self.inside.filled c.self.inside.starts c.args.addr c.args.len
    c.args.writable _ c.behind.result c.self.invariant (omega arith) (omega arith)
    (refill_same c.self.inside.room.items _ size
    ∙ ap (λ (l : List Buffer). slice_set l c.self.inside.filled b) same)
    c.behind.ensures (omega (arith, all_fits c.self.invariant (record { readable = 0; writable = 0 })))
    (omega arith)
