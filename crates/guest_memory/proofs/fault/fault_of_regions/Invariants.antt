use Rattle.guest_memory.proofs.Faults.{Judged}
use Rattle.guest_memory.proofs.fault.fault_of_regions.Given as goal

abbrev pub invariant-loop-place : goal.invariant-loop-place
invariant-loop-place l = Judged l.regions l.place l.size
