use Rattle.std.proofs.Common.{◌+◌}
use Rattle.sector_cache.specs.Stop.{TouchesNothing}
use Rattle.block_device.proofs.Transfers.{IsReading}
use Rattle.block_device.proofs.device.BlockDevice.read_sectors.Given as goal

abbrev pub invariant-loop-done : goal.invariant-loop-done
invariant-loop-done g l =
    IsReading l.chain l.fn.mem l.mem (g.I.Image.disk l.fn.cache) (g.I.Image.disk l.cache)
    (l.self.extent.start + l.sector) l.done
    × TouchesNothing g.I.Image.moment g.I.Image.may_leave g.I.Image.left_since l.fn.cache l.cache
