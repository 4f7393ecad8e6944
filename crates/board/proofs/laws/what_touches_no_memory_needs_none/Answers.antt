use Rattle.board.proofs.Untouched.{gives_needs_none, may_needs_none, saved_over}
use Rattle.board.proofs.UntouchedSteps.{only_notify, step_over}
use Rattle.board.proofs.laws.what_touches_no_memory_needs_none.Goals as goal

pub returns-clause-gives : goal.returns-clause-gives
returns-clause-gives g c = gives_needs_none

pub returns-clause-may : goal.returns-clause-may
returns-clause-may g c = may_needs_none

pub returns-clause-step : goal.returns-clause-step
returns-clause-step g c = step_over

pub returns-clause-notify : goal.returns-clause-notify
returns-clause-notify g c = only_notify g.row.A.Denot

pub returns-clause-saved : goal.returns-clause-saved
returns-clause-saved g c = saved_over
