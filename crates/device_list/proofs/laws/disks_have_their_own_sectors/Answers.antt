use Rattle.device_list.proofs.Extents.{added_own, none_own, still_own}
use Rattle.device_list.proofs.laws.disks_have_their_own_sectors.Goals as goal

pub returns-clause-none : goal.returns-clause-none
returns-clause-none c = none_own

pub returns-clause-added : goal.returns-clause-added
returns-clause-added c = added_own

pub returns-clause-kept : goal.returns-clause-kept
returns-clause-kept c = still_own
