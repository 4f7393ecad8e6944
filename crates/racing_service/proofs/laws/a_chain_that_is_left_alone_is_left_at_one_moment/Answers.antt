use Rattle.racing_service.proofs.LeftAlone.{left_at_once, packed_left, split_left}
use Rattle.racing_service.proofs.laws.a_chain_that_is_left_alone_is_left_at_one_moment.Goals as goal

pub returns-clause-split : goal.returns-clause-split
returns-clause-split g c = λ setup backend races buffers entry why a b left alone.
    left_at_once split_left (g.D.ChainHandler.device setup) races (g.D.ChainHandler.Refuses setup backend) buffers entry why a b
    left alone

pub returns-clause-packed : goal.returns-clause-packed
returns-clause-packed g c = λ setup backend races buffers entry why a b left alone.
    left_at_once packed_left (g.D.ChainHandler.device setup) races (g.D.ChainHandler.Refuses setup backend) buffers entry why a b
    left alone
