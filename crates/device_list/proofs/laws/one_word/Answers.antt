use Rattle.device_list.proofs.One.{word_once}
use Rattle.device_list.proofs.laws.one_word.Goals as goal

pub returns : goal.returns
returns c = λ n said m one other old new new'. word_once said n m one other old new new'
