use Rattle.replay.proofs.Answering.{changed}
use Rattle.replay.proofs.running.restore.Goals as goal

pub returns-in-Ok : goal.returns-in-Ok
returns-in-Ok g c =
    changed g.I.Image.disk c.args.board.now c.restore.new.self _ _ c.in-Ok.ensures.step
    c.in-Ok.ensures.image c.in-Ok.ensures.extents

pub returns-in-Err-BadSlot : goal.returns-in-Err-BadSlot
returns-in-Err-BadSlot g c =
    changed g.I.Image.disk c.args.board.now c.restore.new.self _ _
    (rw c.in-Err-BadSlot.field-0-is at c.in-Err-BadSlot.ensures.step)
    c.in-Err-BadSlot.ensures.image c.in-Err-BadSlot.ensures.extents

pub returns-in-Err-Busy : goal.returns-in-Err-Busy
returns-in-Err-Busy g c =
    changed g.I.Image.disk c.args.board.now c.restore.new.self _ _
    (rw c.in-Err-Busy.field-0-is at c.in-Err-Busy.ensures.step)
    c.in-Err-Busy.ensures.image c.in-Err-Busy.ensures.extents

pub returns-in-Err-Fault : goal.returns-in-Err-Fault
returns-in-Err-Fault g c =
    changed g.I.Image.disk c.args.board.now c.restore.new.self _ _
    (rw c.in-Err-Fault.field-0-is at c.in-Err-Fault.ensures.step)
    c.in-Err-Fault.ensures.image c.in-Err-Fault.ensures.extents
