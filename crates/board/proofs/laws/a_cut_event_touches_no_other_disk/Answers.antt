use Rattle.board.specs.Image.{bytes_of}
use Rattle.board.proofs.Durable.{contents_left}
use Rattle.board.proofs.Touching.{apart_left}
use Rattle.board.proofs.laws.a_cut_event_touches_no_other_disk.Goals as goal

pub returns-clause-known : goal.returns-clause-known
returns-clause-known g c = apart_left g.I.Image.moment g.I.Image.may_leave g.I.Image.left_since

pub returns-clause-seen : goal.returns-clause-seen
returns-clause-seen g c = λ old new slot since own other left touches here apart tells clean begins past.
    let disk = g.I.Image.disk old.image in
    apart_left g.I.Image.moment g.I.Image.may_leave g.I.Image.left_since old new slot since own other
    (bytes_of disk) left touches here apart
    (λ whole may. contents_left disk.contents whole tells (g.met.I.Image.durable old.image whole may clean))
    begins past
