use Rattle.board.proofs.Keeping.{lacking_event_keeps}
use Rattle.board.proofs.laws.want_of_memory_keeps_the_rest.Goals as goal

pub returns : goal.returns
returns g c = lacking_event_keeps
