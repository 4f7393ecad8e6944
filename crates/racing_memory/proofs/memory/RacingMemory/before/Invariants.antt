use Rattle.racing_memory.proofs.memory.RacingMemory.before.Given as goal

abbrev pub ghost-new : goal.ghost-new
ghost-new g a = g.stood
