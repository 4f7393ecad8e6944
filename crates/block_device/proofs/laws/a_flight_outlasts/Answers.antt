use Rattle.block_device.proofs.Unasked.{flight_outlasts}
use Rattle.block_device.proofs.laws.a_flight_outlasts.Goals as goal

pub returns : goal.returns
returns c = flight_outlasts
