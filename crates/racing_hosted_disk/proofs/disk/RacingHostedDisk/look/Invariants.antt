use Rattle.std.specs.Prelude.{◌≡◌}
use Rattle.guest_memory.specs.Memory.{SameRange}
use Rattle.shared_memory.specs.Sightings.{memory}
use Rattle.racing_service.specs.Flights.{AreAhead}
use Rattle.std.specs.Prelude.{All}
use Rattle.racing_hosted_disk.specs.Looking.{place_at}
use Rattle.block_device.specs.Tags.{TagIsHeld, tokens_of}
use Rattle.racing_hosted_disk.proofs.Looks.{IsLooking}
use Rattle.racing_hosted_disk.proofs.disk.RacingHostedDisk.look.Given as goal

abbrev pub invariant-loop : goal.invariant-loop
invariant-loop g l = record {
  looking : IsLooking g.Q.RacingQueue.kind g.Q.RacingQueue.entry_of g.Q.RacingQueue.IsTaken l.fn.self.device g.M.Shared.races
      l.fn.limits l.fn.stable l.fn.stage l.here
      (place_at (g.M.Shared.sightings l.fn.mem) l.fn.queue l.fn.limits.budget l.fn.self.tags)
      (place_at (g.M.Shared.sightings l.mem) l.queue l.left l.self-inside.tags) l.counter l.wanted;
  device : l.self-inside.disk.device ≡ l.fn.self.device;
  on_hold : l.self-inside.on_hold ≡ l.fn.self.on_hold;
  each : All (TagIsHeld l.fn.self.device.extent.count (memory (g.M.Shared.sightings l.mem))) l.self-inside.tags;
  ahead : AreAhead g.Q.RacingQueue.entry_of g.Q.KeepsFlights.Fits g.Q.KeepsFlights.ahead_of l.queue
      (tokens_of l.self-inside.tags);
  range : SameRange (memory (g.M.Shared.sightings l.fn.mem)) (memory (g.M.Shared.sightings l.mem));
  lies : g.Q.RacingQueue.LiesIn (memory (g.M.Shared.sightings l.mem)) l.queue;
}
