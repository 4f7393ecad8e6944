use Rattle.racing_memory.proofs.Undisturbed.{seen_as_it_stood}
use Rattle.racing_memory.proofs.laws.a_memory_that_is_left_alone_is_seen_as_it_stood.Goals as goal

pub returns : goal.returns
returns c = λ s found k. seen_as_it_stood s found k
