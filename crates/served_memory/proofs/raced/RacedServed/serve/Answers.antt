use Rattle.served_memory.proofs.Leaving.{left_by, left_is_there}
use Rattle.served_memory.proofs.raced.RacedServed.serve.Goals as goal

pub close-requires-clause-there : goal.close-requires-clause-there
close-requires-clause-there g c =
    let setup = g.H.ChainHandler.setup c.args.device.now.0 c.args.backend.now in
    left_is_there (g.H.ChainHandler.device setup) (g.H.ChainHandler.Refuses setup c.serve_queue.new.backend)
    g.M.Shared.races c.args.limits c.args.q c.serve_queue.new.chain c.in-Err.refused
    (g.M.Shared.sightings c.args.self.now.0) (g.M.Shared.sightings c.serve_queue.new.mem)
    c.args.window.now c.serve_queue.new.window
    (g.H.ChainHandler.state c.args.device.now.0 c.args.backend.now)
    (g.H.ChainHandler.state c.serve_queue.new.device c.serve_queue.new.backend) c.in-Err.ensures.left

pub returns-in-Err-clause-leaves : goal.returns-in-Err-clause-leaves
returns-in-Err-clause-leaves g c =
    let setup = g.H.ChainHandler.setup c.args.device.now.0 c.args.backend.now in
    left_by (g.H.ChainHandler.device setup) (g.H.ChainHandler.Refuses setup c.serve_queue.new.backend)
    g.M.Shared.races c.args.limits c.args.q c.serve_queue.new.chain c.in-Err.refused
    (g.M.Shared.sightings c.args.self.now.0) (g.M.Shared.sightings c.serve_queue.new.mem)
    c.args.window.now c.serve_queue.new.window
    (g.H.ChainHandler.state c.args.device.now.0 c.args.backend.now)
    (g.H.ChainHandler.state c.serve_queue.new.device c.serve_queue.new.backend)
    (g.M.Shared.sightings c.close.new.mem) c.close.new.window c.in-Err.ensures.left c.close.ensures.closes
