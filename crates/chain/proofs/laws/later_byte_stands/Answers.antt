use Rattle.chain.proofs.Scattering.{scatter-push}
use Rattle.chain.proofs.laws.later_byte_stands.Goals as goal

pub returns : goal.returns
returns c = scatter-push
