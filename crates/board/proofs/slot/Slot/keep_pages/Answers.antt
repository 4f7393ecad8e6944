use Rattle.std.proofs.Common.{refl}
use Rattle.board.proofs.Belonging.{memory_changed}
use Rattle.board.proofs.slot.Slot.keep_pages.Goals as goal

pub invariant_of-self : goal.invariant_of-self
invariant_of-self g c =
    memory_changed _ _ _ _ _ _ c.self.invariant
    (rw (c.keep_pages.ensures) (record { base = refl; size = refl; gaps = refl }))
