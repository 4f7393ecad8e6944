use Rattle.std.proofs.Common.{false, refl, arith}
use Rattle.chain.proofs.Directions.{len_of-le}
use Rattle.block_device.proofs.device.BlockDevice.look_into.Goals as goal

pub overflow_cast-tag : goal.overflow_cast-tag
overflow_cast-tag g c =
    omega (
      arith,
      c.readable_len.ensures.value,
      c.buffers.ensures.fits,
      len_of-le false c.host_piece-hosted.new.room,
    )

pub returns-in-Asks-clause-asks : goal.returns-in-Asks-clause-asks
returns-in-Asks-clause-asks g c = (
  record { flight = c.in-Asks.flight; runs = c.host_piece-hosted.new.runs },
  c.host_piece-hosted.new.room,
  refl,
  λ disk. rw c.in-Asks.is at (c.host_piece-hosted.ensures.served disk),
)
