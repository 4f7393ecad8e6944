use Rattle.racing_ring.proofs.Seeing.{split_seen}
use Rattle.racing_ring.proofs.room.read.Goals as goal

pub returns-clause-seen : goal.returns-clause-seen
returns-clause-seen g c = rw c.of_fields.ensures (split_seen c.load_fields-fields.ensures.fields)
