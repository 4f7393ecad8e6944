use Rattle.entropy_device.proofs.Filling.{length-filled}
use Rattle.entropy_device.proofs.Services.{once}
use Rattle.entropy_device.proofs.laws.one_answer.Goals as goal

pub returns : goal.returns
returns c = record { once = once; whole = length-filled }
