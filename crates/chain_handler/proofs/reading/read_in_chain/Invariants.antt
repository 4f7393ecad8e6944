use Rattle.std.proofs.Common.{◌≡◌, ◌-◌, ◌≤◌, false, drop, length, take}
use Rattle.chain.specs.Bytes.{addresses_of}
use Rattle.shared_memory.specs.Bytes.{AreBytesSeen}
use Rattle.shared_memory.specs.Sightings.{Loads}
use Rattle.chain_handler.proofs.reading.read_in_chain.Given as goal

-- the first bytes were copied
abbrev pub invariant-loop-done : goal.invariant-loop-done
invariant-loop-done g l = record {
  within : l.done ≤ length l.into;
  long : length l.into ≡ length l.fn.into;
  copied : AreBytesSeen (g.M.Shared.sightings l.fn.mem) (g.M.Shared.sightings l.mem)
      (take l.done (drop l.from (addresses_of false l.chain))) (take l.done l.into);
  loads : Loads g.M.Shared.races (g.M.Shared.sightings l.fn.mem) (g.M.Shared.sightings l.mem);
}

abbrev pub decreases-loop-done : goal.decreases-loop-done
decreases-loop-done g l = length l.initial.into - l.done
