use Rattle.standing_guest.proofs.Block.{block_busy, block_written}
use Rattle.standing_guest.proofs.Telling.{told_done, told_nothing}
use Rattle.standing_guest.proofs.laws.a_disk_that_stands_still_is_a_slots.Goals as goal

pub returns-clause-waits : goal.returns-clause-waits
returns-clause-waits g c = block_busy _

pub returns-clause-write : goal.returns-clause-write
returns-clause-write g c = λ offset width value limits limit old new before after out out' sound own free writes.
    block_written _ offset width value limits old new before after out out' sound own free writes.1.0 writes.1.1 writes.0

pub returns-clause-nothing : goal.returns-clause-nothing
returns-clause-nothing g c = told_nothing _

pub returns-clause-told : goal.returns-clause-told
returns-clause-told g c = λ said limits old new before after sound own some is.
    told_done _ said limits old new before after sound own some is.rest is.told
