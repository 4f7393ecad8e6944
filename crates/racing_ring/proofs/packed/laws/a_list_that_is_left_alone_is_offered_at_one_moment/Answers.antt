use Rattle.racing_ring.proofs.PackedLeaving.{packed_available_at, packed_offered_at}
use Rattle.racing_ring.proofs.packed.laws.a_list_that_is_left_alone_is_offered_at_one_moment.Goals as goal

pub returns-clause-available : goal.returns-clause-available
returns-clause-available c = packed_available_at

pub returns-clause-offered : goal.returns-clause-offered
returns-clause-offered c = packed_offered_at
