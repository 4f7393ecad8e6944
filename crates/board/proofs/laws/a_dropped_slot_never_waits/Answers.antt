use Rattle.board.proofs.Holding.{dropped_free, dropped_further, dropped_passes, dropped_whole}
use Rattle.board.proofs.laws.a_dropped_slot_never_waits.Goals as goal

pub returns-clause-free : goal.returns-clause-free
returns-clause-free g c = dropped_free

pub returns-clause-passes : goal.returns-clause-passes
returns-clause-passes g c = dropped_passes

pub returns-clause-dropped : goal.returns-clause-dropped
returns-clause-dropped g c = dropped_whole

pub returns-clause-further : goal.returns-clause-further
returns-clause-further g c = λ n. dropped_further n
