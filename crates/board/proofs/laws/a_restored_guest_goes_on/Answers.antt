use Rattle.board.proofs.GoingOn as going_on
use Rattle.board.proofs.laws.a_restored_guest_goes_on.Goals as goal

pub returns-clause-state : goal.returns-clause-state
returns-clause-state g c = going_on.state_again

pub returns-clause-run : goal.returns-clause-run
returns-clause-run g c = λ guest h state saved bytes old new old' new' restore moves moves'.
    going_on.ran_on_both guest h state saved bytes old new old' new' restore moves moves'
