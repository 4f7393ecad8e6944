use Rattle.std.proofs.Common.{[]}
use Rattle.racing_memory.proofs.memory.RacingMemory.over.Given as goal

abbrev pub ghost-before : goal.ghost-before
ghost-before g a = record { bytes = g.stood; pages = [] }
