use Rattle.std.proofs.Common.{◌*◌, ◌<◌}
use Rattle.std.specs.Prelude.{if◌then◌else◌}
use Rattle.guest_memory.specs.Memory.{Inside}
use Rattle.shared_memory.specs.Sightings.{Loads, memory}
use Rattle.racing_ring.proofs.Listing.{Followed}
use Rattle.racing_ring.proofs.packed.walk.append_list.Given as goal

abbrev pub invariant-loop-count : goal.invariant-loop-count
invariant-loop-count g l = record {
  loads : Loads g.M.Shared.races (g.M.Shared.sightings l.fn.mem) (g.M.Shared.sightings l.mem);
  area : Inside (memory (g.M.Shared.sightings l.mem)) l.table.addr (16 * l.table.size);
  below : l.index < l.table.size;
  list : Followed (memory (g.M.Shared.sightings l.fn.mem)) (g.M.Shared.sightings l.fn.mem)
      (g.M.Shared.sightings l.mem) l.table.addr l.table.size l.first (if l.wrap then 1 else 0) l.count l.index l.chain;
}
