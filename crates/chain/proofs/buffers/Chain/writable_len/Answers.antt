use Rattle.std.proofs.Common.{◌∙◌, sym, true}
use Rattle.chain.proofs.Directions.{length-addresses_of}
use Rattle.chain.proofs.buffers.Chain.writable_len.Goals as goal

pub returns : goal.returns
returns c = c.of.ensures ∙ c.sizes.ensures.writable ∙ sym (length-addresses_of true c.args.self.now)
