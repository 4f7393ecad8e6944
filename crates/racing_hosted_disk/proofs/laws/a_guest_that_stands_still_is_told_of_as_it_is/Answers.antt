use Rattle.racing_service.specs.Queue.{racing_packed, racing_split}
use Rattle.racing_service.proofs.Rings.{IsPackedSound, IsSplitSound, packed_stands_still, split_stands_still}
use Rattle.racing_hosted_disk.specs.Laws.{packed_entry, packed_taken, split_entry, split_taken}
use Rattle.racing_hosted_disk.proofs.Standing.{told_of}
use Rattle.racing_hosted_disk.proofs.laws.a_guest_that_stands_still_is_told_of_as_it_is.Goals as goal

pub returns-clause-split : goal.returns-clause-split
returns-clause-split c = λ device stage most stable wanted here a b asks.
    told_of racing_split IsSplitSound split_stands_still split_entry device stage most stable split_taken here a b wanted asks

pub returns-clause-packed : goal.returns-clause-packed
returns-clause-packed c = λ device stage most stable wanted here a b asks.
    told_of racing_packed IsPackedSound packed_stands_still packed_entry device stage most stable packed_taken here a b wanted asks
