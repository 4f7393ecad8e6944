use Rattle.board.proofs.Restoring.{cause_once}
use Rattle.board.proofs.laws.a_restore_is_refused_for_one_cause.Goals as goal

pub returns : goal.returns
returns c = cause_once
