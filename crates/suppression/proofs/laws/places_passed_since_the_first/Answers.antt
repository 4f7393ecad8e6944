use Rattle.suppression.proofs.Distance.{back_at_first, passed_since_first}
use Rattle.suppression.proofs.laws.places_passed_since_the_first.Goals as goal

pub returns-clause-first : goal.returns-clause-first
returns-clause-first c = back_at_first

pub returns-clause-passed : goal.returns-clause-passed
returns-clause-passed c = passed_since_first
