use Rattle.session.proofs.Kept.{busy_keeps, idle_keeps}
use Rattle.session.proofs.laws.what_waits_changes_nothing.Goals as goal

pub returns-clause-busy : goal.returns-clause-busy
returns-clause-busy g c = busy_keeps

pub returns-clause-idle : goal.returns-clause-idle
returns-clause-idle g c = idle_keeps
