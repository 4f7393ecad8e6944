use Rattle.chain.specs.Buffers.{Good}
use Rattle.conformance.proofs.calls.chains.good_chain.Given as goal

abbrev pub invariant-loop-buffer : goal.invariant-loop-buffer
invariant-loop-buffer l = Good l.mem l.chain
