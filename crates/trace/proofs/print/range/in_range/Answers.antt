use Rattle.std.proofs.Common.{arith}
use Rattle.trace.specs.Printable.{EventInRange}
use Rattle.trace.proofs.Printables.{each_more}
use Rattle.trace.proofs.print.range.in_range.Goals as goal

pub loop-event-preserved : goal.loop-event-preserved
loop-event-preserved g c =
    each_more EventInRange c.args.trace.now.events.items c.loop-event.event-index c.event-item.result
    c.loop-event.invariant (omega arith)
    (rw c.deref-event-items.ensures.value at c.event-item.is) c.event_in_range.ensures
