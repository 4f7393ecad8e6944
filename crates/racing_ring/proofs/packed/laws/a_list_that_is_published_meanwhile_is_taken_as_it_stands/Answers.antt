use Rattle.racing_ring.proofs.Publishing.{published_available, published_offered}
use Rattle.racing_ring.proofs.packed.laws.a_list_that_is_published_meanwhile_is_taken_as_it_stands.Goals as goal

pub returns-clause-available : goal.returns-clause-available
returns-clause-available c = published_available

pub returns-clause-offered : goal.returns-clause-offered
returns-clause-offered c = published_offered
