use Rattle.board.proofs.Releasing.{release_makes_up}
use Rattle.board.proofs.laws.a_release_makes_up_for_a_notification.Goals as goal

pub returns : goal.returns
returns g c = release_makes_up
