use Rattle.racing_hosted_disk.proofs.Telling.{completed, dropped, dropped_holds, held_back}
use Rattle.racing_hosted_disk.proofs.disk.RacingHostedDisk.tell.Goals as goal

pub returns-in-Drop-clause-does : goal.returns-in-Drop-clause-does
returns-in-Drop-clause-does g c =
    rw (c.in-Drop.is)
    (dropped g.Q.RacingQueue.kind g.Q.RacingQueue.entry_of g.Q.RacingQueue.IsTaken _ c.args.limits c.args.stable c.give_up.result c.args.self.now
    c.give_up.new.self _ _ c.give_up.ensures.idle c.give_up.ensures.gives)

pub returns-in-Drop-clause-held : goal.returns-in-Drop-clause-held
returns-in-Drop-clause-held g c =
    dropped_holds g.Q.RacingQueue.entry_of g.Q.KeepsFlights.Fits g.Q.KeepsFlights.ahead_of _ _ c.args.self.now
    c.give_up.new.self c.give_up.result c.give_up.ensures.gives c.give_up.ensures.kept c.requires.held

pub returns-in-Hold-clause-does : goal.returns-in-Hold-clause-does
returns-in-Hold-clause-does g c =
    rw (c.in-Hold.is)
    (held_back g.Q.RacingQueue.kind g.Q.RacingQueue.entry_of g.Q.RacingQueue.IsTaken _ c.args.limits c.args.stable c.hold.result c.args.self.now
    c.hold.new.self _ _ c.hold.ensures.idle c.hold.ensures.held)

pub returns-in_ok-before-in-Complete-clause-does : goal.returns-in_ok-before-in-Complete-clause-does
returns-in_ok-before-in-Complete-clause-does g c =
    rw (c.in-Complete.is)
    (completed g.Q.RacingQueue.kind g.Q.RacingQueue.entry_of g.Q.RacingQueue.IsTaken _ c.args.limits c.args.stable
    c.in-Complete.tag c.in-Complete.verdict c.args.self.now c.land.new.self _ _ _ _ _ _ _ _ _ _
    c.in_ok-before-in-Complete.ensures.rest (c.in_ok-before-in-Complete.ensures.lands c.args.limits.budget)
    c.serve_from-served.ensures.serves)
