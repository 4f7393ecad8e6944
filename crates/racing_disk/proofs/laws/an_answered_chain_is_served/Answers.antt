use Rattle.racing_disk.proofs.Standing.{answer_served, answer_still}
use Rattle.racing_disk.proofs.laws.an_answered_chain_is_served.Goals as goal

pub returns-clause-served : goal.returns-clause-served
returns-clause-served c = answer_served

pub returns-clause-still : goal.returns-clause-still
returns-clause-still c = answer_still
