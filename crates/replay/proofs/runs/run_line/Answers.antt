use Rattle.replay.proofs.runs.run_line.Goals as goal

pub returns-then-hosted : goal.returns-then-hosted
returns-then-hosted g c = rw c.if-hosted.true c.run_hosted_line.ensures

pub returns-else-hosted : goal.returns-else-hosted
returns-else-hosted g c = rw c.if-hosted.false c.run_plain_line.ensures
