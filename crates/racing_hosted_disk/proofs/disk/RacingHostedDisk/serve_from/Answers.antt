use Rattle.racing_hosted_disk.proofs.Telling.{serves_none}
use Rattle.racing_hosted_disk.proofs.disk.RacingHostedDisk.serve_from.Goals as goal

pub returns-then-self-clause-serves : goal.returns-then-self-clause-serves
returns-then-self-clause-serves g c =
    rw (← c.self.view_is)
    (serves_none g.Q.RacingQueue.kind g.Q.RacingQueue.entry_of g.Q.RacingQueue.IsTaken _ c.args.limits c.args.stable c.args.stage _ _ _ c.if-self.true)
