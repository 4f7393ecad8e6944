use Rattle.session.proofs.Alone.{seated_alone, seat_course_once}
use Rattle.session.proofs.PacedCourses.{never_pauses}
use Rattle.session.proofs.laws.the_outlet_decides.Goals as goal

pub returns-clause-runs : goal.returns-clause-runs
returns-clause-runs g c =
    λ guest old new steps state course never idle here. seated_alone guest old steps new state
    course never here idle

pub returns-clause-once : goal.returns-clause-once
returns-clause-once g c =
    λ limit old one other calls answers answers2 x y. seat_course_once limit old calls answers
    answers2 one other x y

pub returns-clause-without : goal.returns-clause-without
returns-clause-without g c =
    λ guest old new steps state course unlimited idle here. seated_alone guest old steps new state course
    (never_pauses guest old new steps course unlimited idle) here idle
