use Rattle.racing_service.proofs.LeftAlone.{packed_alike, packed_published, split_alike}
use Rattle.racing_service.proofs.laws.what_is_seen_the_same_is_left_alone.Goals as goal

pub returns-clause-split : goal.returns-clause-split
returns-clause-split c = split_alike

pub returns-clause-packed : goal.returns-clause-packed
returns-clause-packed c = packed_alike

pub returns-clause-published : goal.returns-clause-published
returns-clause-published c = packed_published
