use Rattle.racing_memory.proofs.Changing.{change_made}
use Rattle.racing_memory.proofs.word.change_of.Goals as goal

pub returns : goal.returns
returns c = change_made c.args.word c.args.from c.args.len c.args.v c.requires.some c.requires.within c.requires.number
