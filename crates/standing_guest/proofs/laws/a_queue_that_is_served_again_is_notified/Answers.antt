use Rattle.standing_guest.proofs.Again.{again_begins}
use Rattle.standing_guest.proofs.laws.a_queue_that_is_served_again_is_notified.Goals as goal

pub returns : goal.returns
returns g c = λ queue limits limit old new before after out out' sound own s.
    again_begins limits old new before after _ limit out out' queue sound own s
