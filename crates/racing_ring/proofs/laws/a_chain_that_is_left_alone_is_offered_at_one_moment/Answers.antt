use Rattle.racing_ring.proofs.Leaving.{offered_at}
use Rattle.racing_ring.proofs.laws.a_chain_that_is_left_alone_is_offered_at_one_moment.Goals as goal

pub returns : goal.returns
returns c = offered_at
