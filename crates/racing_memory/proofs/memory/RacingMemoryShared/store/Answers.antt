use Rattle.racing_memory.proofs.Seeing.{each_noted, each_range}
use Rattle.racing_memory.proofs.memory.RacingMemoryShared.store.Goals as goal

pub returns-clause-stored : goal.returns-clause-stored
returns-clause-stored c = rw c.stored_each.ensures (each_noted c.args.self.now c.args.addr c.args.bytes.now)

pub returns-clause-range : goal.returns-clause-range
returns-clause-range c = rw c.stored_each.ensures (each_range c.args.self.now c.args.addr c.args.bytes.now)
