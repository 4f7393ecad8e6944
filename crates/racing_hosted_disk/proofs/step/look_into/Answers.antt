use Rattle.shared_memory.specs.Sightings.{memory}
use Rattle.racing_service.specs.Service.{standing_at}
use Rattle.racing_service.proofs.Flights.{moves}
use Rattle.racing_service.proofs.Moving.{service_keeps}
use Rattle.racing_hosted_disk.proofs.Finding.{found_fits, found_held, found_in}
use Rattle.racing_hosted_disk.proofs.Going.{found_launches}
use Rattle.racing_hosted_disk.proofs.step.look_into.Goals as goal

pub returns-in-Ok-clause-range : goal.returns-in-Ok-clause-range
returns-in-Ok-clause-range g c =
    (service_keeps (moves g.met.Q.KeepsFlights.lasts) _ _ _ _ _ _ _ _ c.in-Ok.ensures.serves).range

pub returns-in-Err-clause-finds : goal.returns-in-Err-clause-finds
returns-in-Err-clause-finds g c =
    found_in g.Q.RacingQueue.kind g.Q.RacingQueue.entry_of g.Q.RacingQueue.IsTaken c.args.disk.now.device _ _ _ _ _ _ c.look.new.chain
    c.look.new.runs c.in-Err.field-0.wanted c.in-Err.field-0.flight c.in-Err.ensures.asks c.in-Err.ensures.answers

pub returns-in-Err-clause-held : goal.returns-in-Err-clause-held
returns-in-Err-clause-held g c =
    found_held g.Q.RacingQueue.kind g.Q.RacingQueue.entry_of g.Q.RacingQueue.IsTaken c.args.disk.now.device _ _ _ _ _ _ c.look.new.chain
    c.look.new.runs c.in-Err.field-0.wanted c.in-Err.field-0.flight c.args.disk.now.device.extent.count
    (memory (g.M.Shared.sightings c.look.new.mem)) c.in-Err.ensures.asks c.in-Err.ensures.inside c.in-Err.ensures.place

pub returns-in-Err-clause-fits : goal.returns-in-Err-clause-fits
returns-in-Err-clause-fits g c =
    found_fits g.Q.RacingQueue.kind g.Q.RacingQueue.entry_of g.Q.RacingQueue.IsTaken c.args.disk.now.device g.M.Shared.races
    c.args.stage c.args.limits.rounds c.args.stable
    (standing_at (g.M.Shared.sightings c.args.mem.now) c.args.queue.now tt c.args.limits.budget)
    (standing_at (g.M.Shared.sightings c.look.new.mem) c.look.new.queue tt c.in-Err.field-0.left)
    c.look.new.chain c.look.new.runs c.in-Err.field-0.wanted g.met.Q.KeepsFlights.lasts c.in-Err.field-0.flight
    c.look.new.queue c.in-Err.ensures.ahead

pub returns-in-Err-clause-range : goal.returns-in-Err-clause-range
returns-in-Err-clause-range g c =
    (found_launches g.met.Q.KeepsFlights.lasts c.args.disk.now.device _ _ _ g.Q.RacingQueue.IsTaken _ _ _ _ _
    (returns-in-Err-clause-finds g c) (returns-in-Err-clause-fits g c)).range
