use Rattle.snapshot.proofs.OfSlot.{fields_spell}
use Rattle.snapshot.proofs.laws.fields_are_the_spelling.Goals as goal

pub returns : goal.returns
returns c = fields_spell
