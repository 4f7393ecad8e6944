use Rattle.racing_ring.proofs.Leaving.{faulty_still, offered_still}
use Rattle.racing_ring.proofs.Standing.{closed_still, given_still, wanted_still}
use Rattle.racing_ring.proofs.laws.a_guest_that_stands_still_is_served_as_it_is.Goals as goal

pub returns-clause-offered : goal.returns-clause-offered
returns-clause-offered c = offered_still

pub returns-clause-fault : goal.returns-clause-fault
returns-clause-fault c = faulty_still

pub returns-clause-given : goal.returns-clause-given
returns-clause-given c = given_still

pub returns-clause-closed : goal.returns-clause-closed
returns-clause-closed c = closed_still

pub returns-clause-wants : goal.returns-clause-wants
returns-clause-wants c = wanted_still
