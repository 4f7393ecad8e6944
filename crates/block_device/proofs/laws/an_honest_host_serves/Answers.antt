use Rattle.block_device.proofs.Unasked.{honest_host_serves}
use Rattle.block_device.proofs.laws.an_honest_host_serves.Goals as goal

pub returns : goal.returns
returns c = honest_host_serves
