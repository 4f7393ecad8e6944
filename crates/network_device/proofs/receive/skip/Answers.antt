use Rattle.std.proofs.Common.{arith}
use Rattle.network_device.proofs.Fitting.{skip_on}
use Rattle.network_device.proofs.receive.skip.Goals as goal

pub loop-left-preserved : goal.loop-left-preserved
loop-left-preserved g c = (
  omega (arith, c.loop-left.invariant.0),
  skip_on c.args.store.now.frames c.args.store.now.begun c.args.store.now.limits c.args.count c.loop-left.left
      c.loop-left.store c.pop.new.self c.loop-left-test.true c.loop-left.invariant.0 c.loop-left.invariant.1
      c.pop.ensures,
)
