use Rattle.std.proofs.Common.{true}
use Rattle.racing_memory.proofs.memory.RacingMemory.stored.Given as goal

abbrev pub ghost-note : goal.ghost-note
ghost-note a = true
