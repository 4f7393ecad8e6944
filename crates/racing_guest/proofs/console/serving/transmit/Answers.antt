use Rattle.console_device.specs.Device.{transmit_within}
use Rattle.console_device.specs.Output.{NoRoom}
use Rattle.racing_guest.proofs.Transmitting.{left_is_there, transmits_up_to}
use Rattle.racing_guest.proofs.console.serving.transmit.Goals as goal

pub close-requires-clause-there : goal.close-requires-clause-there
close-requires-clause-there g c =
    left_is_there (transmit_within (g.O.Outlet.limit c.args.out.now)) (NoRoom (g.O.Outlet.limit c.args.out.now))
    g.M.Shared.races c.args.limits.rounds 1 c.args.limits.budget c.serve_queue.new.chain
    c.in-Err.refused (g.M.Shared.sightings c.args.mem.now) (g.M.Shared.sightings c.serve_queue.new.mem)
    c.args.window.now c.serve_queue.new.window (g.O.Outlet.bytes c.args.out.now)
    (g.O.Outlet.bytes c.serve_queue.new.backend) c.in-Err.ensures.left

pub returns-in-Err-clause-refused : goal.returns-in-Err-clause-refused
returns-in-Err-clause-refused g c =
    transmits_up_to g.M.Shared.races c.args.limits (g.O.Outlet.limit c.args.out.now)
    (g.M.Shared.sightings c.args.mem.now) (g.M.Shared.sightings c.serve_queue.new.mem)
    (g.M.Shared.sightings c.close.new.mem) c.args.window.now c.serve_queue.new.window c.close.new.window
    (g.O.Outlet.bytes c.args.out.now) (g.O.Outlet.bytes c.serve_queue.new.backend) c.serve_queue.new.chain
    c.in-Err.refused c.in-Err.ensures.left c.close.ensures.closes
