use Rattle.racing_ring.proofs.PackedLeaving.{packed_closed_still, packed_faulty_still, packed_given_still, packed_offered_still, packed_told_still, packed_wanted_still}
use Rattle.racing_ring.proofs.packed.laws.a_packed_ring_that_stands_still_is_served_as_it_is.Goals as goal

pub returns-clause-told : goal.returns-clause-told
returns-clause-told c = packed_told_still

pub returns-clause-offered : goal.returns-clause-offered
returns-clause-offered c = packed_offered_still

pub returns-clause-fault : goal.returns-clause-fault
returns-clause-fault c = packed_faulty_still

pub returns-clause-given : goal.returns-clause-given
returns-clause-given c = packed_given_still

pub returns-clause-closed : goal.returns-clause-closed
returns-clause-closed c = packed_closed_still

pub returns-clause-wants : goal.returns-clause-wants
returns-clause-wants c = packed_wanted_still
