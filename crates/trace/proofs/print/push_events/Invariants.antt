use Rattle.std.proofs.Common.{◌≡◌, ◌++◌, map, take}
use Rattle.trace.specs.Text.{event_line, joined}
use Rattle.trace.proofs.print.push_events.Given as goal

-- the lines so far
abbrev pub invariant-loop-event : goal.invariant-loop-event
invariant-loop-event g l = l.out.items ≡ l.initial.out.items
    ++ joined (map event_line (take l.event-index l.events))
