use Rattle.standing_guest.proofs.Making.{new_slot, reads_too}
use Rattle.std.proofs.Common.{refl}
use Rattle.standing_guest.proofs.laws.a_new_guest_is_a_new_slot.Goals as goal

pub returns-clause-new : goal.returns-clause-new
returns-clause-new g c = new_slot

pub returns-clause-disk : goal.returns-clause-disk
returns-clause-disk g c = λ spec. refl

pub returns-clause-read : goal.returns-clause-read
returns-clause-read g c = reads_too
