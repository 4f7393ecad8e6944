use Rattle.racing_memory.proofs.Marks.{no_bits}
use Rattle.racing_memory.proofs.memory.RacingMemory.over.Goals as goal

pub before-requires : goal.before-requires
before-requires g c = (c.requires, no_bits c.new.result.items c.new.ensures.items)
