use Rattle.std.proofs.Common.{length}
use Rattle.racing_ffi.proofs.device.+add_each.Given as goal

abbrev pub decreases-add_each : goal.decreases-add_each
decreases-add_each l = length l.devices.now
