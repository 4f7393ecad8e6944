use Rattle.racing_disk.proofs.Standing.{left_still, request_still, runs_still, told_still}
use Rattle.racing_disk.proofs.laws.a_guest_that_stands_still_asks_for_what_it_has.Goals as goal

pub returns-clause-request : goal.returns-clause-request
returns-clause-request c = request_still

pub returns-clause-told : goal.returns-clause-told
returns-clause-told c = told_still

pub returns-clause-left : goal.returns-clause-left
returns-clause-left c = left_still

pub returns-clause-runs : goal.returns-clause-runs
returns-clause-runs c = runs_still
