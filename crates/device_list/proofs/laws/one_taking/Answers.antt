use Rattle.device_list.proofs.One.{taking_once}
use Rattle.device_list.proofs.laws.one_taking.Goals as goal

pub returns : goal.returns
returns c = λ n m one other old new new'. taking_once n m one other old new new'
