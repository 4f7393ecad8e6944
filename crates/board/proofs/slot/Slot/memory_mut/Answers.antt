-- Whatever is written, the memory keeps its range, so the windows stay sound for it.
use Rattle.guest_memory.proofs.Ranges.{stored_range}
use Rattle.board.proofs.Belonging.{memory_changed}
use Rattle.board.proofs.slot.Slot.memory_mut.Goals as goal

pub invariant_of-self-lent : goal.invariant_of-self-lent
invariant_of-self-lent g c w =
    memory_changed _ _ _ _ _ _ c.self.invariant (stored_range c.self.inside.memory c.args.addr w)
