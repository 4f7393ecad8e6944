use Rattle.device_list.proofs.One.{write_once}
use Rattle.device_list.proofs.laws.one_write.Goals as goal

pub returns : goal.returns
returns c = λ n offset width value m one other old new new'. write_once offset width value n m one other old new new'
