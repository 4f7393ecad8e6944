use Rattle.std.proofs.Common.{◌+◌}
use Rattle.std.specs.List.{range_with_len}
use Rattle.chain.specs.Bytes.{readable_of}
use Rattle.sector_cache.specs.Stop.{TouchesSectors}
use Rattle.block_device.specs.Request.{payload_of}
use Rattle.block_device.specs.Touching.{on_image}
use Rattle.block_device.proofs.Transfers.{IsWriting}
use Rattle.block_device.proofs.device.BlockDevice.write_each.Given as goal

abbrev pub invariant-loop-done : goal.invariant-loop-done
invariant-loop-done g l =
    IsWriting (g.I.Image.disk l.fn.cache) (g.I.Image.disk l.cache) (l.self.extent.start + l.sector)
    (payload_of (readable_of l.mem l.chain)) l.done
    × TouchesSectors g.I.Image.moment g.I.Image.may_leave g.I.Image.left_since
    (on_image l.self.extent (range_with_len l.sector l.fn.count)) l.fn.cache l.cache
