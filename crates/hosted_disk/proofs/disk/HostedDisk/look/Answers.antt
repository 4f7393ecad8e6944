use Rattle.hosted_disk.proofs.Windows.{looked_keeps}
use Rattle.hosted_disk.proofs.disk.HostedDisk.look.Goals as goal

pub returns-then-not-self-clause-kind : goal.returns-then-not-self-clause-kind
returns-then-not-self-clause-kind g c = (looked_keeps _ _ _ c.look.ensures.looks).kind

pub returns-then-not-self-clause-offered : goal.returns-then-not-self-clause-offered
returns-then-not-self-clause-offered g c = (looked_keeps _ _ _ c.look.ensures.looks).offered
