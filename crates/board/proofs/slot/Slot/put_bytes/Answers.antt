use Rattle.guest_memory.proofs.Ranges.{stored_range}
use Rattle.board.proofs.Belonging.{memory_changed}
use Rattle.board.proofs.slot.Slot.put_bytes.Goals as goal

pub invariant_of-self : goal.invariant_of-self
invariant_of-self g c =
    memory_changed _ _ _ _ _ _ c.self.invariant
    (stored_range c.self.inside.memory c.args.addr c.copy_from_slice.new.self)
