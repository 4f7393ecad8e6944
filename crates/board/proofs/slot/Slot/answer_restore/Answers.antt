use Rattle.std.proofs.Common.{sym, ◌∙◌}
use Rattle.board.specs.Slot.{state_of}
use Rattle.board.proofs.Restoring.{restore_given, restore_waits}
use Rattle.board.proofs.slot.Slot.answer_restore.Goals as goal

pub returns-in-Ok-clause-given : goal.returns-in-Ok-clause-given
returns-in-Ok-clause-given g c = λ image health filled.
    rw (c.in-Ok.is) at
    (restore_given g.row.A.Denot image c.args.self.now c.restore.new.self c.args.from.now c.restore.result health
    (sym c.are_at_work.ensures ∙ c.if-are_at_work.false) filled
    c.restore.ensures.ok c.restore.ensures.fault c.restore.ensures.kept)

pub returns-in-Err-clause-given : goal.returns-in-Err-clause-given
returns-in-Err-clause-given g c = λ image health filled.
    rw (c.in-Err.is) at
    (restore_given g.row.A.Denot image c.args.self.now c.restore.new.self c.args.from.now c.restore.result health
    (sym c.are_at_work.ensures ∙ c.if-are_at_work.false) filled
    c.restore.ensures.ok c.restore.ensures.fault c.restore.ensures.kept)

pub returns-then-are_at_work-clause-given : goal.returns-then-are_at_work-clause-given
returns-then-are_at_work-clause-given g c = λ image health filled.
    restore_waits g.row.A.Denot (state_of image c.args.self.now) c.args.from.now health
    (sym c.are_at_work.ensures ∙ c.if-are_at_work.true)
