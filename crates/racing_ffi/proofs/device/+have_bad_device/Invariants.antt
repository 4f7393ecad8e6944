use Rattle.std.proofs.Common.{length}
use Rattle.racing_ffi.proofs.device.+have_bad_device.Given as goal

abbrev pub decreases-have_bad_device : goal.decreases-have_bad_device
decreases-have_bad_device l = length l.devices.now
