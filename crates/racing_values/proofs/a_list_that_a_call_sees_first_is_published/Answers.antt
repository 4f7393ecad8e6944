use Rattle.racing_values.proofs.Alone.{list_taken, list_published, list_offered}
use Rattle.racing_values.proofs.a_list_that_a_call_sees_first_is_published.Goals as goal

pub returns-clause-taken : goal.returns-clause-taken
returns-clause-taken c = list_taken

pub returns-clause-published : goal.returns-clause-published
returns-clause-published c = list_published

pub returns-clause-offered : goal.returns-clause-offered
returns-clause-offered c = list_offered
