use Rattle.std.proofs.Common.{◌∙◌, sym}
use Rattle.chain.proofs.Directions.{length-readable_of}
use Rattle.chain.proofs.buffers.Chain.readable_len.Goals as goal

pub returns-clause-list : goal.returns-clause-list
returns-clause-list c = λ m h.
    length-readable_of m c.args.self.now h ∙ sym (c.of.ensures ∙ c.sizes.ensures.readable)
