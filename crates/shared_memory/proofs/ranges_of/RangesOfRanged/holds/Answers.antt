use Rattle.guest_memory.proofs.InRegions.{same_test}
use Rattle.shared_memory.proofs.ranges_of.RangesOfRanged.holds.Goals as goal

pub returns-clause-test : goal.returns-clause-test
returns-clause-test g c = same_test c.holds.ensures.inside
