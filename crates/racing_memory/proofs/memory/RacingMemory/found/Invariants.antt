use Rattle.std.proofs.Common.{false}
use Rattle.racing_memory.proofs.memory.RacingMemory.found.Given as goal

abbrev pub ghost-note : goal.ghost-note
ghost-note a = false
