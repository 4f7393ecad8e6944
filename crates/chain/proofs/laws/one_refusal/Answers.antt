use Rattle.chain.proofs.Admitting.{Admits-Refuses, Refuses-unique}
use Rattle.chain.proofs.laws.one_refusal.Goals as goal

pub returns-clause-never_both : goal.returns-clause-never_both
returns-clause-never_both c = Admits-Refuses

pub returns-clause-one_cause : goal.returns-clause-one_cause
returns-clause-one_cause c = Refuses-unique
