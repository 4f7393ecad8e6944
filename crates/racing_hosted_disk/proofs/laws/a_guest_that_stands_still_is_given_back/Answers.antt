use Rattle.racing_service.specs.declared.stage.Stage.TheVariants.{First}
use Rattle.racing_service.specs.Queue.{racing_packed, racing_split}
use Rattle.racing_service.proofs.Rings.{IsPackedSound, IsSplitSound, packed_stands_still, split_stands_still}
use Rattle.racing_hosted_disk.specs.Laws.{packed_entry, split_entry}
use Rattle.std.proofs.Common.{false}
use Rattle.racing_hosted_disk.proofs.Standing.{lands_as_one}
use Rattle.racing_hosted_disk.proofs.laws.a_guest_that_stands_still_is_given_back.Goals as goal

pub returns-clause-split : goal.returns-clause-split
returns-clause-split c = λ device tag verdict wanted a b lies some lands.
    lands_as_one racing_split IsSplitSound split_stands_still split_entry device First 0 false tag verdict a b wanted
    (record { lies = lies; some = some }) lands

pub returns-clause-packed : goal.returns-clause-packed
returns-clause-packed c = λ device tag verdict wanted a b some lands.
    lands_as_one racing_packed IsPackedSound packed_stands_still packed_entry device First 0 false tag verdict a b wanted
    (record { some = some }) lands
