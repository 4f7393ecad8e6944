use Rattle.std.specs.Prelude.{◌≡◌}
use Rattle.shared_memory.specs.Sightings.{memory}
use Rattle.racing_service.specs.Service.{standing_at}
use Rattle.racing_service.proofs.Coming.{IsInService}
use Rattle.racing_service.proofs.service.serve.Given as goal

abbrev pub invariant-loop : goal.invariant-loop
invariant-loop g l = record {
  service : IsInService g.Q.RacingQueue.kind (g.D.ChainHandler.device (g.D.ChainHandler.setup l.fn.device l.fn.backend))
      g.M.Shared.races l.fn.stage l.here
      (standing_at (g.M.Shared.sightings l.fn.mem) l.fn.queue (g.D.ChainHandler.state l.fn.device l.fn.backend)
      l.fn.limits.budget)
      (standing_at (g.M.Shared.sightings l.mem) l.queue (g.D.ChainHandler.state l.device l.backend) l.left)
      l.counter l.wanted;
  setup : g.D.ChainHandler.setup l.device l.backend ≡ g.D.ChainHandler.setup l.fn.device l.fn.backend;
  ready : g.D.ChainHandler.IsReady l.device l.backend;
  lies : g.Q.RacingQueue.LiesIn (memory (g.M.Shared.sightings l.mem)) l.queue;
}
