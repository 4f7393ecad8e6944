use Rattle.board.proofs.Lasting.{has_course, lasts}
use Rattle.board.proofs.laws.a_flush_that_was_answered_lasts.Goals as goal

pub returns-clause-course : goal.returns-clause-course
returns-clause-course g c = λ slot old new moves state. has_course slot old moves new state

pub returns-clause-lasts : goal.returns-clause-lasts
returns-clause-lasts g c = λ slot disk old first later passage new tag place here before after course.
    lasts disk old first later passage tag place here before after
