use Rattle.racing_memory.proofs.Undisturbed.{may_stand}
use Rattle.racing_memory.proofs.laws.each_memory_may_stand_there.Goals as goal

pub returns : goal.returns
returns c = λ regions m same. may_stand regions m same
