use Rattle.session.proofs.Untouched.{call_over, store_over}
use Rattle.session.proofs.laws.what_touches_no_memory_needs_none.Goals as goal

pub returns-clause-same : goal.returns-clause-same
returns-clause-same g c = call_over

pub returns-clause-store : goal.returns-clause-store
returns-clause-store g c = store_over
