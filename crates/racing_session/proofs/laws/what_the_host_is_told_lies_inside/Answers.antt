use Rattle.racing_guest.proofs.Holding.{told_inside}
use Rattle.racing_session.proofs.laws.what_the_host_is_told_lies_inside.Goals as goal

pub returns : goal.returns
returns c = λ session m tag operation sound same is.
    told_inside m session.guest.block tag operation (sound m same).block is
