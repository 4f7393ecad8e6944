use Rattle.guest_memory.proofs.PageBits.{set_bit}
use Rattle.guest_memory.proofs.pages.set.Goals as goal

pub returns-clause-bits : goal.returns-clause-bits
returns-clause-bits c = set_bit c.args.bits.now c.args.page c.requires
