use Rattle.device_list.proofs.One.{supply_once}
use Rattle.device_list.proofs.laws.one_supply.Goals as goal

pub returns : goal.returns
returns c = λ n bytes m one other old new new'. supply_once bytes n m one other old new new'
