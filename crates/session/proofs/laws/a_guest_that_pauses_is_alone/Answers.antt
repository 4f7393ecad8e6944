-- A guest of a session is alone, however it pauses.
use Rattle.session.proofs.Made.{made_paced_alone}
use Rattle.session.proofs.Paced.{paced_alone, paced_course_once, see_paced_alike}
use Rattle.session.proofs.laws.a_guest_that_pauses_is_alone.Goals as goal

pub returns-clause-alone : goal.returns-clause-alone
returns-clause-alone g c = made_paced_alone

pub returns-clause-runs : goal.returns-clause-runs
returns-clause-runs g c = λ g old new steps state paused course here pauses. paced_alone g old steps new state paused course here pauses

pub returns-clause-once : goal.returns-clause-once
returns-clause-once g c = paced_course_once

pub returns-clause-alike : goal.returns-clause-alike
returns-clause-alike g c = see_paced_alike
