use Rattle.std.proofs.Common.{ℕ, ◌<◌, get_or}
use Rattle.board.specs.declared.event.Event.{Event}
use Rattle.board.specs.declared.spec.SlotSpec.{SlotSpec}
use Rattle.trace.specs.Printable.{EventInRange, SlotInRange}
use Rattle.trace.proofs.print.range.in_range.Given as goal

-- those so far are in range
abbrev pub invariant-loop-slot : goal.invariant-loop-slot
invariant-loop-slot g l =
    (k : ℕ) (d : SlotSpec) → k < l.slot-index → SlotInRange (get_or l.trace.slots.items k d)

abbrev pub invariant-loop-event : goal.invariant-loop-event
invariant-loop-event g l =
    (k : ℕ) (d : Event _) → k < l.event-index → EventInRange (get_or l.trace.events.items k d)
