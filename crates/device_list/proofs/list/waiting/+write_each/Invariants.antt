use Rattle.std.proofs.Common.{length}
use Rattle.device_list.proofs.list.waiting.+write_each.Given as goal

abbrev pub decreases-write_each : goal.decreases-write_each
decreases-write_each g l = length l.devices.now
