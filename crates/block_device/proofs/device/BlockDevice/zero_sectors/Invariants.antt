use Rattle.std.specs.List.{range_with_len}
use Rattle.sector_cache.specs.Stop.{TouchesSectors}
use Rattle.block_device.specs.Touching.{on_image}
use Rattle.block_device.specs.Zeroes.{IsZeroed, sectors_of}
use Rattle.block_device.proofs.device.BlockDevice.zero_sectors.Given as goal

abbrev pub invariant-loop-done : goal.invariant-loop-done
invariant-loop-done g l =
    IsZeroed l.self.extent (range_with_len l.fn.segment.sector l.done)
    (g.I.Image.disk l.fn.cache) (g.I.Image.disk l.cache)
    × TouchesSectors g.I.Image.moment g.I.Image.may_leave g.I.Image.left_since
    (on_image l.self.extent (sectors_of l.fn.segment)) l.fn.cache l.cache
