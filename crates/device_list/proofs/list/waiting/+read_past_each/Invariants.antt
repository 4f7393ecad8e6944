use Rattle.std.proofs.Common.{length}
use Rattle.device_list.proofs.list.waiting.+read_past_each.Given as goal

abbrev pub decreases-read_past_each : goal.decreases-read_past_each
decreases-read_past_each g l = length l.devices.now
