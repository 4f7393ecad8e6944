-- A guest that had room runs alone.
use Rattle.session.proofs.PacedCourses.{runs_alone, runs_alone_unlimited}
use Rattle.session.proofs.laws.a_guest_with_room_runs_alone.Goals as goal

pub returns-clause-within : goal.returns-clause-within
returns-clause-within g c = λ guest old new steps state. runs_alone guest old new steps state

pub returns-clause-without : goal.returns-clause-without
returns-clause-without g c = λ guest old new steps state. runs_alone_unlimited guest old new steps state
