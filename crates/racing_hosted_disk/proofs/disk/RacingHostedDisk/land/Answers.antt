use Rattle.std.proofs.Common.{◌∙◌, None, ap}
use Rattle.shared_memory.specs.Sightings.{memory}
use Rattle.racing_hosted_disk.proofs.Landing.{holds_as, is_ahead, lands_ahead, lands_by, lands_held, lands_range, lands_within, set_none}
use Rattle.racing_hosted_disk.proofs.disk.RacingHostedDisk.land.Goals as goal

pub returns-in_err-flight-clause-held : goal.returns-in_err-flight-clause-held
returns-in_err-flight-clause-held g c =
    holds_as g.met.Q.KeepsFlights.lasts _ _ c.args.self.now _
    (ap (λ t. record { device = c.self.inside.disk.device; tags = t; on_hold = c.self.inside.on_hold })
    (c.take.ensures.free ∙ set_none c.self.inside.tags c.args.tag c.in_err-flight.ensures.found)
    ∙ c.self.view_is) c.requires.held

pub complete-requires-clause-ahead : goal.complete-requires-clause-ahead
complete-requires-clause-ahead g c =
    is_ahead g.met.Q.KeepsFlights.lasts (memory (g.M.Shared.sightings c.args.mem.now)) c.args.queue.now
    (record { device = c.self.inside.disk.device; tags = c.self.inside.tags; on_hold = c.self.inside.on_hold }) c.args.tag
    c.in_ok-flight.flight (rw (← c.self.view_is) at c.requires.held) c.in_ok-flight.ensures.found

pub returns-clause-lands : goal.returns-clause-lands
returns-clause-lands g c =
    rw (← c.self.view_is)
    (λ left. lands_by g.met.Q.KeepsFlights.lasts c.self.inside.disk.device _ _ _ _ _ c.complete.new.queue _ left c.self.inside.tags
    c.take.new.self c.args.tag c.in_ok-flight.flight c.args.verdict c.complete.result c.close.result
    c.in_ok-flight.ensures.found c.take.ensures.free c.complete.ensures.back
    c.close.ensures.closed c.close.ensures.shut)

pub returns-clause-range : goal.returns-clause-range
returns-clause-range g c =
    lands_range g.met.Q.KeepsFlights.lasts _ _ _ _ _ _ _ (returns-clause-lands g c (record { chains = None; bytes = None }))

pub returns-clause-held : goal.returns-clause-held
returns-clause-held g c =
    let held = rw (← c.self.view_is) at c.requires.held in
    let lands = lands_by g.met.Q.KeepsFlights.lasts c.self.inside.disk.device g.M.Shared.races
    (g.M.Shared.sightings c.args.mem.now) (g.M.Shared.sightings c.complete.new.mem)
    (g.M.Shared.sightings c.close.new.mem) c.args.queue.now c.complete.new.queue c.close.new.self
    (record { chains = None; bytes = None }) c.self.inside.tags
    c.take.new.self c.args.tag c.in_ok-flight.flight c.args.verdict c.complete.result c.close.result
    c.in_ok-flight.ensures.found c.take.ensures.free c.complete.ensures.back
    c.close.ensures.closed c.close.ensures.shut in
    record {
      each = lands_held g.met.Q.KeepsFlights.lasts _ _ _ _ _ _ _ _ lands held.each;
      ahead = lands_ahead g.met.Q.KeepsFlights.lasts _ _ _ _ _ _ _ lands
          (lands_within g.met.Q.KeepsFlights.lasts c.self.inside.disk.device g.M.Shared.races c.self.inside.tags c.args.tag
          c.in_ok-flight.flight c.in_ok-flight.ensures.found) held.ahead;
    }
