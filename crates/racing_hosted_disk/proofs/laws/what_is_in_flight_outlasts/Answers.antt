use Rattle.racing_hosted_disk.proofs.Landing.{outlasts}
use Rattle.racing_hosted_disk.proofs.Telling.{fresh_holds, unserved_holds}
use Rattle.racing_hosted_disk.proofs.laws.what_is_in_flight_outlasts.Goals as goal

pub returns-clause-fresh : goal.returns-clause-fresh
returns-clause-fresh g c = fresh_holds g.Q.RacingQueue.entry_of g.Q.KeepsFlights.Fits g.Q.KeepsFlights.ahead_of

pub returns-clause-outlasts : goal.returns-clause-outlasts
returns-clause-outlasts g c =
    outlasts g.met.Q.KeepsFlights.lasts

pub returns-clause-unserved : goal.returns-clause-unserved
returns-clause-unserved g c =
    unserved_holds g.Q.RacingQueue.entry_of g.Q.KeepsFlights.Fits g.Q.KeepsFlights.ahead_of
