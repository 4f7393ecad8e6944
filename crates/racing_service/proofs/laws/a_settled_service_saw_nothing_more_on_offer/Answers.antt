use Rattle.racing_service.proofs.Looking.{no_head, no_list}
use Rattle.racing_service.proofs.laws.a_settled_service_saw_nothing_more_on_offer.Goals as goal

pub returns-clause-split : goal.returns-clause-split
returns-clause-split g c = λ setup races wanted stage rounds at b settled takes.
    rw settled.shut (no_head (g.D.ChainHandler.device setup) races at settled.looked takes settled.look)

pub returns-clause-packed : goal.returns-clause-packed
returns-clause-packed g c = λ setup races wanted stage rounds at b settled takes room.
    rw settled.shut (no_list (g.D.ChainHandler.device setup) races at settled.looked takes room settled.look)
