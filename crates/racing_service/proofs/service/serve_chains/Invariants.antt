use Rattle.std.specs.Prelude.{◌≡◌}
use Rattle.shared_memory.specs.Sightings.{memory}
use Rattle.racing_service.specs.Service.{standing_at}
use Rattle.racing_service.proofs.Coming.{IsInRound}
use Rattle.racing_service.proofs.service.serve_chains.Given as goal

abbrev pub invariant-loop-queue : goal.invariant-loop-queue
invariant-loop-queue g l = record {
  round : IsInRound g.Q.RacingQueue.kind (g.D.ChainHandler.device (g.D.ChainHandler.setup l.fn.device l.fn.backend))
      g.M.Shared.races
      (standing_at (g.M.Shared.sightings l.fn.mem) l.fn.queue (g.D.ChainHandler.state l.fn.device l.fn.backend) l.fn.left)
      (standing_at (g.M.Shared.sightings l.mem) l.queue (g.D.ChainHandler.state l.device l.backend) l.left) l.some;
  setup : g.D.ChainHandler.setup l.device l.backend ≡ g.D.ChainHandler.setup l.fn.device l.fn.backend;
  ready : g.D.ChainHandler.IsReady l.device l.backend;
  lies : g.Q.RacingQueue.LiesIn (memory (g.M.Shared.sightings l.mem)) l.queue;
}

abbrev pub decreases-loop-queue : goal.decreases-loop-queue
decreases-loop-queue g l = g.Q.RacingQueue.left_of l.queue
