use Rattle.std.proofs.Common.{take}
use Rattle.sector_cache.specs.Stop.{TouchesSectors}
use Rattle.block_device.specs.Touching.{on_image}
use Rattle.block_device.specs.Zeroes.{IsZeroed, all_sectors}
use Rattle.block_device.proofs.device.BlockDevice.zero_segments.Given as goal

abbrev pub invariant-loop-segment : goal.invariant-loop-segment
invariant-loop-segment g l =
    IsZeroed l.self.extent (all_sectors (take l.segment-index l.list))
    (g.I.Image.disk l.fn.cache) (g.I.Image.disk l.cache)
    × TouchesSectors g.I.Image.moment g.I.Image.may_leave g.I.Image.left_since
    (on_image l.self.extent (all_sectors l.list)) l.fn.cache l.cache
