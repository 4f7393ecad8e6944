use Rattle.split_ring.proofs.Passing.{passes_its_place}
use Rattle.split_ring.proofs.laws.a_chain_passes_its_place.Goals as goal

pub returns-clause-passed : goal.returns-clause-passed
returns-clause-passed c = passes_its_place
