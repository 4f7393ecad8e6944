use Rattle.chain.proofs.Admitting.{good_nil}
use Rattle.conformance.proofs.calls.chains.good_chain.Goals as goal

pub loop-buffer-init : goal.loop-buffer-init
loop-buffer-init c = rw c.new-chain.ensures (good_nil c.args.mem.now)
