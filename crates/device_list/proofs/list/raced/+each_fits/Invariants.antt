use Rattle.std.proofs.Common.{length}
use Rattle.device_list.proofs.list.raced.+each_fits.Given as goal

abbrev pub decreases-each_fits : goal.decreases-each_fits
decreases-each_fits g l = length l.devices.now
