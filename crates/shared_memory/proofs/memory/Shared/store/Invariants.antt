use Rattle.std.proofs.Common.{length, take}
use Rattle.std.specs.List.{range_with_len}
use Rattle.guest_memory.specs.Memory.{SameRange}
use Rattle.shared_memory.specs.Bytes.{StoresEach}
use Rattle.shared_memory.specs.Sightings.{memory}
use Rattle.shared_memory.proofs.memory.Shared.store.Given as goal

-- the first bytes were stored
abbrev pub invariant-loop-index : goal.invariant-loop-index
invariant-loop-index g l = record {
  stored : StoresEach g.Self.Shared.races (g.Self.Shared.sightings l.fn.self) (g.Self.Shared.sightings l.self)
      (take l.index (range_with_len l.addr (length l.bytes))) (take l.index l.bytes);
  range : SameRange (memory (g.Self.Shared.sightings l.fn.self)) (memory (g.Self.Shared.sightings l.self));
}
