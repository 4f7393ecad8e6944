use Rattle.std.proofs.Common.{◌≡◌, map, ◌++◌, take, drop}
use Rattle.replay.specs.Limits.{asked_of_board}
use Rattle.replay.proofs.limits.limit_memories.Given as goal

-- the slots so far are limited, and the others are as they were
abbrev pub invariant-loop-slot : goal.invariant-loop-slot
invariant-loop-slot l = l.slots ≡ map (asked_of_board l.format) (take l.slot-index l.initial.slots)
    ++ drop l.slot-index l.initial.slots
