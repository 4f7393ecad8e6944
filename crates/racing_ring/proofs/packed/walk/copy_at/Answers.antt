use Rattle.racing_ring.proofs.Seeing.{packed_copied}
use Rattle.racing_ring.proofs.packed.walk.copy_at.Goals as goal

pub returns-clause-copied : goal.returns-clause-copied
returns-clause-copied g c =
    rw (c.of_fields.ensures, c.reduced-next.ensures)
    (packed_copied (rw c.from-2.ensures at c.load_fields-fields.ensures.fields))
