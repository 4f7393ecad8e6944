use Rattle.device_list.proofs.RoundTrip.{round_trip}
use Rattle.device_list.proofs.laws.what_is_saved_is_taken_up.Goals as goal

pub returns : goal.returns
returns c = round_trip
