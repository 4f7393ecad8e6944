use Rattle.std.proofs.Common.{◌≡◌, ◌++◌, map, take}
use Rattle.trace.specs.Text.{slot_line, joined}
use Rattle.trace.proofs.print.push_slots.Given as goal

-- the lines so far
abbrev pub invariant-loop-slot : goal.invariant-loop-slot
invariant-loop-slot g l = l.out.items ≡ l.initial.out.items
    ++ joined (map (slot_line l.format) (take l.slot-index l.slots))
