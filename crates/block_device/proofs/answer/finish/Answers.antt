use Rattle.std.proofs.Common.{arith}
use Rattle.block_device.proofs.Answering.{writable_few}
use Rattle.block_device.proofs.answer.finish.Goals as goal

pub used-requires-clause-fits : goal.used-requires-clause-fits
used-requires-clause-fits g c =
    omega (arith, writable_few c.args.mem.now c.args.chain.now c.requires.good, c.writable_len-writable.ensures)
