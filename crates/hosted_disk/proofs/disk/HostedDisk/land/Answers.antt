use Rattle.hosted_disk.proofs.Windows.{landed_keeps}
use Rattle.hosted_disk.proofs.disk.HostedDisk.land.Goals as goal

pub returns-clause-kind : goal.returns-clause-kind
returns-clause-kind g c = (landed_keeps c.land.result _ _ _ _ c.land.ensures.lands c.land.ensures.kept).kind

pub returns-clause-offered : goal.returns-clause-offered
returns-clause-offered g c = (landed_keeps c.land.result _ _ _ _ c.land.ensures.lands c.land.ensures.kept).offered
