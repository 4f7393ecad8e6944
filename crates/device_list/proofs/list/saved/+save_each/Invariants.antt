use Rattle.std.proofs.Common.{length}
use Rattle.device_list.proofs.list.saved.+save_each.Given as goal

abbrev pub decreases-save_each : goal.decreases-save_each
decreases-save_each g l = length l.devices.now
