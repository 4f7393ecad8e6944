use Rattle.board.proofs.Holding.{hold_free, hold_stays}
use Rattle.board.proofs.laws.no_chain_is_taken_on_hold.Goals as goal

pub returns-clause-free : goal.returns-clause-free
returns-clause-free g c = λ disk old tag what. hold_free disk old what tag

pub returns-clause-stays : goal.returns-clause-stays
returns-clause-stays g c = hold_stays
