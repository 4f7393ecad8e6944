use Rattle.std.proofs.Common.{◌-◌, ◌≤◌, drop, length, take}
use Rattle.guest_memory.specs.Memory.{SameRange}
use Rattle.chain.specs.Bytes.{writable_of}
use Rattle.shared_memory.specs.Bytes.{StoresEach}
use Rattle.shared_memory.specs.Sightings.{memory}
use Rattle.chain_handler.proofs.storing.store_parts.Given as goal

-- the first bytes were stored
abbrev pub invariant-loop-done : goal.invariant-loop-done
invariant-loop-done g l = record {
  within : l.done ≤ length l.bytes;
  stored : StoresEach g.M.Shared.races (g.M.Shared.sightings l.fn.mem) (g.M.Shared.sightings l.mem)
      (take l.done (drop l.from (writable_of l.chain))) (take l.done l.bytes);
  range : SameRange (memory (g.M.Shared.sightings l.fn.mem)) (memory (g.M.Shared.sightings l.mem));
}

abbrev pub decreases-loop-done : goal.decreases-loop-done
decreases-loop-done g l = length l.bytes - l.done
