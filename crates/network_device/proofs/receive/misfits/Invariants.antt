use Rattle.std.specs.Prelude.{◌-◌}
use Rattle.network_device.proofs.Fitting.{IsSearching}
use Rattle.network_device.proofs.receive.misfits.Given as goal

abbrev pub invariant-loop-place : goal.invariant-loop-place
invariant-loop-place g l = IsSearching l.room l.store.frames l.place

abbrev pub decreases-loop-place : goal.decreases-loop-place
decreases-loop-place g l = l.count - l.place
