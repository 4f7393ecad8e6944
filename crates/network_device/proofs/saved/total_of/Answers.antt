use Rattle.std.proofs.Common.{arith}
use Rattle.network_device.proofs.Saving.{sum_more}
use Rattle.network_device.proofs.saved.total_of.Goals as goal

pub loop-i-preserved : goal.loop-i-preserved
loop-i-preserved c = record {
  sum = sum_more c.args.lens.now c.loop-i.i c.loop-i.total c.from_le_bytes.result _
      (omega (arith, c.loop-i-test.true, c.loop-i.auto.i-end)) c.loop-i.invariant.sum c.from_le_bytes.ensures;
  small = omega (arith, c.loop-i.invariant.small, c.from_le_bytes.type_inv);
}
