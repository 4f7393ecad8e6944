use Rattle.guest_memory.proofs.Faults.{good_zeroed}
use Rattle.racing_memory.proofs.laws.good_regions_make_a_memory.Goals as goal

pub returns : goal.returns
returns c = λ regions good. (good_zeroed regions good).apart
