use Rattle.board.proofs.Saving.{cause_of, not_refused, restored_of, taken_up}
use Rattle.board.proofs.slot.Slot.restore.Goals as goal

pub returns-in-Ok-clause-ok : goal.returns-in-Ok-clause-ok
returns-in-Ok-clause-ok g c =
    restored_of _ _ _ _ _ _ c.take_up.result c.in-Ok.ensures.spelled c.take_up.ensures.ok

pub returns-in-Ok-clause-fault : goal.returns-in-Ok-clause-fault
returns-in-Ok-clause-fault g c =
    cause_of _ _ _ _ _ c.take_up.result c.in-Ok.ensures.spelled c.take_up.ensures.fault

pub returns-in-Ok-clause-taken : goal.returns-in-Ok-clause-taken
returns-in-Ok-clause-taken g c = λ slot is like.
    taken_up slot c.args.self.now c.take_up.new.self c.args.from.now _ _ _ c.take_up.result is like
    c.take_up.ensures.offers
    c.in-Ok.ensures.spelled c.take_up.ensures.ok c.take_up.ensures.fault

pub returns-in-Err-clause-taken : goal.returns-in-Err-clause-taken
returns-in-Err-clause-taken g c =
    λ slot is like. absurd (not_refused slot c.args.from.now _ is c.in-Err.ensures.fault)
