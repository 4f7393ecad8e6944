-- Whatever is written, the memory keeps its range, so what is in flight is held.
use Rattle.std.proofs.Common.{refl}
use Rattle.guest_memory.proofs.Ranges.{stored_range}
use Rattle.board.specs.Lending.{with_bytes}
use Rattle.board.proofs.Flights.{held_quietly}
use Rattle.board.proofs.guest.Guest.memory_mut.Goals as goal

pub invariant_of-self-lent : goal.invariant_of-self-lent
invariant_of-self-lent g c w =
    let slot = c.self.inside.slot in
    held_quietly slot (with_bytes c.args.addr slot w) refl (stored_range slot.memory c.args.addr w) refl
    c.self.invariant
