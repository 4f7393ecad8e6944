use Rattle.indirect.proofs.Outcomes.{longest}
use Rattle.indirect.proofs.laws.front_is_longest.Goals as goal

pub returns : goal.returns
returns c = longest
