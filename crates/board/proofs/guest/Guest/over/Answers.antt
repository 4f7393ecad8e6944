use Rattle.board.proofs.Flights.{held_opened}
use Rattle.board.proofs.guest.Guest.over.Goals as goal

pub invariant_of-result : goal.invariant_of-result
invariant_of-result g c =
    held_opened c.args.spec.now c.args.memory c.in_ok-slot.slot c.in_ok-slot.ensures
