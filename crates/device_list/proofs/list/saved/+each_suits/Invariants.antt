use Rattle.std.proofs.Common.{length}
use Rattle.device_list.proofs.list.saved.+each_suits.Given as goal

abbrev pub decreases-each_suits : goal.decreases-each_suits
decreases-each_suits g l = length l.devices.now
