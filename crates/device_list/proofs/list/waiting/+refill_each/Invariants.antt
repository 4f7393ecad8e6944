use Rattle.std.proofs.Common.{length}
use Rattle.device_list.proofs.list.waiting.+refill_each.Given as goal

abbrev pub decreases-refill_each : goal.decreases-refill_each
decreases-refill_each g l = length l.devices.now
