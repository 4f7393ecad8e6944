use Rattle.board.proofs.Waiting.{busy_stays, idle_stays}
use Rattle.board.proofs.laws.what_waits_changes_nothing.Goals as goal

pub returns-clause-busy : goal.returns-clause-busy
returns-clause-busy g c = busy_stays

pub returns-clause-idle : goal.returns-clause-idle
returns-clause-idle g c = idle_stays
