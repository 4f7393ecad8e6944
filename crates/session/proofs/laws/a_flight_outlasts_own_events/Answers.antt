use Rattle.session.proofs.Flying.{flies_on}
use Rattle.session.proofs.laws.a_flight_outlasts_own_events.Goals as goal

pub returns : goal.returns
returns g c = λ old new call response slot disk tag here.
    flies_on disk tag here old new call response slot
