use Rattle.indirect.proofs.Outcomes.{one_fault, one_path, never_both}
use Rattle.indirect.proofs.Totality.{walk_has_outcome}
use Rattle.indirect.proofs.laws.one_outcome_of_walk.Goals as goal

pub returns-clause-one_path : goal.returns-clause-one_path
returns-clause-one_path c = one_path

pub returns-clause-one_fault : goal.returns-clause-one_fault
returns-clause-one_fault c = one_fault

pub returns-clause-never_both : goal.returns-clause-never_both
returns-clause-never_both c = never_both

pub returns-clause-some : goal.returns-clause-some
returns-clause-some c = walk_has_outcome
