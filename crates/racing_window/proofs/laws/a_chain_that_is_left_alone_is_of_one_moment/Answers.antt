use Rattle.racing_service.specs.LeftAlone.{chains_of}
use Rattle.racing_service.proofs.LeftAlone.{all_at_once, left_at_once}
use Rattle.racing_window.specs.Queue.{racing_queue}
use Rattle.racing_window.proofs.LeftAlone.{queue_left}
use Rattle.racing_window.proofs.laws.a_chain_that_is_left_alone_is_of_one_moment.Goals as goal

pub returns-clause-served : goal.returns-clause-served
returns-clause-served g c = λ setup races stage most ending wanted a b service alone.
    let device = g.D.ChainHandler.device setup in
    all_at_once queue_left device races (chains_of racing_queue device races stage most a b ending wanted service) alone

pub returns-clause-left : goal.returns-clause-left
returns-clause-left g c = λ setup backend races buffers entry why a b left alone.
    left_at_once queue_left (g.D.ChainHandler.device setup) races (g.D.ChainHandler.Refuses setup backend) buffers entry why a b
    left alone
