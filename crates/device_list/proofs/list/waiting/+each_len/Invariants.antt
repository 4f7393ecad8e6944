use Rattle.std.proofs.Common.{length}
use Rattle.device_list.proofs.list.waiting.+each_len.Given as goal

abbrev pub decreases-each_len : goal.decreases-each_len
decreases-each_len g l = length l.devices.now
