use Rattle.racing_service.specs.LeftAlone.{chains_of}
use Rattle.racing_service.specs.Queue.{racing_packed, racing_split}
use Rattle.racing_service.proofs.LeftAlone.{all_at_once, packed_left, split_left}
use Rattle.racing_service.proofs.laws.a_chain_that_is_left_alone_is_served_at_one_moment.Goals as goal

pub returns-clause-split : goal.returns-clause-split
returns-clause-split g c = λ setup races stage most ending wanted a b service alone.
    let device = g.D.ChainHandler.device setup in
    all_at_once split_left device races (chains_of racing_split device races stage most a b ending wanted service) alone

pub returns-clause-packed : goal.returns-clause-packed
returns-clause-packed g c = λ setup races stage most ending wanted a b service alone.
    let device = g.D.ChainHandler.device setup in
    all_at_once packed_left device races (chains_of racing_packed device races stage most a b ending wanted service) alone
