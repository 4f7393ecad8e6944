use Rattle.std.proofs.Common.{true, arith}
use Rattle.chain.proofs.Directions.{len_of-le, length-addresses_of}
use Rattle.block_device.proofs.hosting.Flight+Token.of.Goals as goal

pub overflow_cast-result : goal.overflow_cast-result
overflow_cast-result c =
    omega (
      arith,
      c.writable_len.ensures,
      c.buffers.ensures.fits,
      len_of-le true c.args.chain.now,
      length-addresses_of true c.args.chain.now,
    )
