use Rattle.std.proofs.Common.{[], ◌∷◌, refl}
use Rattle.network_device.proofs.laws.chains_in_bytes.Goals as goal

pub returns-clause-received : goal.returns-clause-received
returns-clause-received c = record { frame = 170 ∷ 187 ∷ []; later = []; first = refl; is = refl }
