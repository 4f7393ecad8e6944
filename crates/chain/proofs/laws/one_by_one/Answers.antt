use Rattle.std.proofs.Common.{[]}
use Rattle.chain.proofs.Admitting.{Good-from_AdmitsAll, AdmitsAll-from_Good}
use Rattle.chain.proofs.laws.one_by_one.Goals as goal

pub returns : goal.returns
returns c = λ m buffers. (λ h. Good-from_AdmitsAll m buffers h, λ g. AdmitsAll-from_Good m [] buffers g)
