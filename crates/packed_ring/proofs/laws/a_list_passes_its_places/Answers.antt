use Rattle.packed_ring.proofs.Passing.{passes_its_places}
use Rattle.packed_ring.proofs.laws.a_list_passes_its_places.Goals as goal

pub returns-clause-passed : goal.returns-clause-passed
returns-clause-passed c = passes_its_places
