use Rattle.std.specs.Prelude.{◌-◌}
use Rattle.network_device.proofs.Transmitting.{IsPuttingOut}
use Rattle.network_device.proofs.transmit.put_out.Given as goal

abbrev pub invariant-loop-done : goal.invariant-loop-done
invariant-loop-done g l =
    IsPuttingOut g.M.Shared.races (g.M.Shared.sightings l.fn.mem) (g.M.Shared.sightings l.mem) l.chain
    (g.O.FrameOutlet.limits l.fn.out) (g.O.FrameOutlet.limits l.out)
    (g.O.FrameOutlet.frames l.fn.out) (g.O.FrameOutlet.frames l.out) l.done (g.O.FrameOutlet.begun l.out)

abbrev pub decreases-loop-done : goal.decreases-loop-done
decreases-loop-done g l = l.len - l.done
