use Rattle.device_list.proofs.One.{reception_once}
use Rattle.device_list.proofs.laws.one_reception.Goals as goal

pub returns : goal.returns
returns c = λ n frame m one other old new new'. reception_once frame n m one other old new new'
