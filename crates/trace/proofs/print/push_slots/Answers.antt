use Rattle.std.proofs.Common.{arith}
use Rattle.trace.specs.Text.{slot_line}
use Rattle.trace.proofs.Printed.{lines_more, lines_none}
use Rattle.trace.proofs.print.push_slots.Goals as goal

pub loop-slot-init : goal.loop-slot-init
loop-slot-init g c = lines_none (slot_line c.args.format) c.args.out.now.items c.args.slots.now

pub loop-slot-preserved : goal.loop-slot-preserved
loop-slot-preserved g c =
    lines_more (slot_line c.args.format) c.args.out.now.items _ _ c.args.slots.now c.loop-slot.slot-index
    c.slot-item.result (omega arith) c.slot-item.is c.loop-slot.invariant c.in_ok-push_slot.ensures
