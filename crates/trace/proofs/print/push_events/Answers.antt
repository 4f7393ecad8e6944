use Rattle.std.proofs.Common.{arith}
use Rattle.trace.specs.Text.{event_line}
use Rattle.trace.proofs.Printed.{lines_more, lines_none}
use Rattle.trace.proofs.print.push_events.Goals as goal

pub loop-event-init : goal.loop-event-init
loop-event-init g c = lines_none event_line c.args.out.now.items c.args.events.now

pub loop-event-preserved : goal.loop-event-preserved
loop-event-preserved g c =
    lines_more event_line c.args.out.now.items _ _ c.args.events.now c.loop-event.event-index
    c.event-item.result (omega arith) c.event-item.is
    c.loop-event.invariant c.in_ok-push_event.ensures
