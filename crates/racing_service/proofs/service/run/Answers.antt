use Rattle.racing_service.proofs.Coming.{ran_into, ran_ok, ran_up_to}
use Rattle.racing_service.proofs.service.run.Goals as goal

pub returns-in-Ok-clause-runs : goal.returns-in-Ok-clause-runs
returns-in-Ok-clause-runs g c =
    ran_ok g.Q.RacingQueue.kind (g.D.ChainHandler.device (g.D.ChainHandler.setup c.args.device.now c.args.backend.now))
    g.M.Shared.races c.args.stage _ _ _ _ _ _ c.open.ensures.loads c.open.ensures.opened c.serve_chains.result _
    c.in-Ok.ensures.fault c.serve_chains.ensures.serves

pub returns-in-Ok-clause-leaves : goal.returns-in-Ok-clause-leaves
returns-in-Ok-clause-leaves g c =
    ran_up_to g.Q.RacingQueue.kind (g.D.ChainHandler.device (g.D.ChainHandler.setup c.args.device.now c.args.backend.now))
    g.M.Shared.races c.args.stage _ _ _ _ _ _ c.open.ensures.loads c.open.ensures.opened g.Q.RacingQueue.entry_of
    (g.D.ChainHandler.Refuses (g.D.ChainHandler.setup c.args.device.now c.args.backend.now) c.serve_chains.new.backend)
    c.serve_chains.new.chain c.serve_chains.result _ c.in-Ok.ensures.fault c.serve_chains.ensures.leaves

pub returns-in-Err-clause-runs : goal.returns-in-Err-clause-runs
returns-in-Err-clause-runs g c =
    ran_into _ _ _ _ _ _ _ _ _ _ c.open.ensures.loads c.open.ensures.opened _ c.in-Err.ensures.fault
