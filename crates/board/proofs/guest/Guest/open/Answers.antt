use Rattle.guest_memory.specs.Faults.{zeroed_regions}
use Rattle.board.proofs.Flights.{held_opened}
use Rattle.board.proofs.guest.Guest.open.Goals as goal

pub invariant_of-result : goal.invariant_of-result
invariant_of-result g c =
    held_opened c.args.spec.now (zeroed_regions c.args.spec.now.regions) c.in_ok-slot.slot c.in_ok-slot.ensures
