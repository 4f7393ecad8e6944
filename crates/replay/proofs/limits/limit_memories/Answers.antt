use Rattle.replay.specs.Limits.{asked_of_board}
use Rattle.replay.proofs.Limiting.{one_more}
use Rattle.replay.proofs.limits.limit_memories.Goals as goal

pub loop-slot-preserved : goal.loop-slot-preserved
loop-slot-preserved c =
    one_more (asked_of_board c.args.format) c.args.slots.now c.loop-slot.slots c.loop-slot.slot-index _ _
    c.loop-slot-test.true c.loop-slot.auto.slots c.loop-slot.invariant c.limit_memory.ensures
