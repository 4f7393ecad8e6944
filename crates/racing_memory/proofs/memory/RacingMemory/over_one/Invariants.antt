use Rattle.std.proofs.Common.{[]}
use Rattle.racing_memory.proofs.memory.RacingMemory.over_one.Given as goal

abbrev pub ghost-over : goal.ghost-over
ghost-over a = []
