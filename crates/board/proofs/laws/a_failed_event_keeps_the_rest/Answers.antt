use Rattle.board.proofs.Keeping.{failed_event_keeps, passes_counted}
use Rattle.board.proofs.laws.a_failed_event_keeps_the_rest.Goals as goal

pub returns-clause-rest : goal.returns-clause-rest
returns-clause-rest g c = failed_event_keeps

pub returns-clause-failures : goal.returns-clause-failures
returns-clause-failures g c = passes_counted
