use Rattle.mmio_window.specs.Queue.{IsTaken, entry_of}
use Rattle.racing_window.specs.Queue.{racing_queue}
use Rattle.racing_window.proofs.LeftAlone.{queue_left}
use Rattle.racing_window.proofs.Rings.{IsQueueSound, queue_stands_still}
use Rattle.racing_hosted_disk.proofs.Standing.{told_at_once, told_of}
use Rattle.racing_guest.proofs.laws.what_the_host_is_told_is_of_one_moment.Goals as goal

pub returns-clause-still : goal.returns-clause-still
returns-clause-still c = λ device stage most stable wanted here a b asks.
    told_of racing_queue IsQueueSound queue_stands_still entry_of device stage most stable IsTaken here a b wanted asks

pub returns-clause-alone : goal.returns-clause-alone
returns-clause-alone c = λ device races stage most stable wanted here a b asks alone.
    told_at_once queue_left entry_of IsTaken device races stage most stable here a b wanted asks alone
