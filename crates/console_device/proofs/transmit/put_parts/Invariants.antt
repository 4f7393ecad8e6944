use Rattle.std.proofs.Common.{◌≡◌, ◌-◌}
use Rattle.console_device.proofs.Transmitting.{HasPutOut}
use Rattle.console_device.proofs.transmit.put_parts.Given as goal

abbrev pub invariant-loop-done : goal.invariant-loop-done
invariant-loop-done g l = record {
  put : HasPutOut g.M.Shared.races (g.M.Shared.sightings l.fn.mem) (g.M.Shared.sightings l.mem) l.chain l.done
      (g.O.Outlet.bytes l.fn.out) (g.O.Outlet.bytes l.out) (g.O.Outlet.room l.out);
  limit : g.O.Outlet.limit l.out ≡ g.O.Outlet.limit l.fn.out;
}

abbrev pub decreases-loop-done : goal.decreases-loop-done
decreases-loop-done g l = l.len - l.done
