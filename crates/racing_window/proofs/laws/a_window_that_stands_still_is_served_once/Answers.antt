use Rattle.racing_window.proofs.Standing.{broken_once, settled_once}
use Rattle.racing_window.proofs.laws.a_window_that_stands_still_is_served_once.Goals as goal

pub returns-clause-settled : goal.returns-clause-settled
returns-clause-settled g c = λ setup most q budget queue progress old new before after s s' r serves sound at.
    settled_once (g.D.ChainHandler.device setup) most q budget queue progress old new before after s s' serves sound at r

pub returns-clause-broken : goal.returns-clause-broken
returns-clause-broken g c = λ setup most q budget queue progress old new before after s s' fault serves sound at.
    broken_once (g.D.ChainHandler.device setup) most q budget queue progress old new before after s s' serves sound at fault
