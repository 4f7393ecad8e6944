use Rattle.std.proofs.Common.{arith}
use Rattle.guest_memory.proofs.InRegions.{same_test}
use Rattle.guest_memory.proofs.Stocked.{has_regions, only_tells, tells_with, viewed}
use Rattle.guest_memory.proofs.memory.GuestMemory.holds.Goals as goal

pub returns-then-len-eq1-clause-inside : goal.returns-then-len-eq1-clause-inside
returns-then-len-eq1-clause-inside g c =
    only_tells (has_regions c.self.invariant c.self.view_is)
    (omega (arith, c.self.inside.regions.ok.0, c.len.ensures, c.if-len-eq1.true)) c.index.ensures c.holds.ensures.inside

pub returns-then-len-eq1-clause-test : goal.returns-then-len-eq1-clause-test
returns-then-len-eq1-clause-test g c = same_test (returns-then-len-eq1-clause-inside g c)

pub returns-clause-inside : goal.returns-clause-inside
returns-clause-inside g c = tells_with (viewed c.self.view_is c.deref.ensures.value) c.holds-2.ensures.inside

pub returns-clause-test : goal.returns-clause-test
returns-clause-test g c = same_test (returns-clause-inside g c)
