use Rattle.racing_service.proofs.LeftAlone.{packed_left, split_left}
use Rattle.racing_hosted_disk.specs.Laws.{packed_entry, packed_taken, split_entry, split_taken}
use Rattle.racing_hosted_disk.proofs.Standing.{told_at_once}
use Rattle.racing_hosted_disk.proofs.laws.a_chain_that_is_left_alone_is_told_of_as_it_is.Goals as goal

pub returns-clause-split : goal.returns-clause-split
returns-clause-split c = λ device races stage most stable wanted here a b asks alone.
    told_at_once split_left split_entry split_taken device races stage most stable here a b wanted asks alone

pub returns-clause-packed : goal.returns-clause-packed
returns-clause-packed c = λ device races stage most stable wanted here a b asks alone.
    told_at_once packed_left packed_entry packed_taken device races stage most stable here a b wanted asks alone
