use Rattle.racing_session.proofs.memory.LentMemory.over.Given as goal

abbrev pub ghost-with_pages : goal.ghost-with_pages
ghost-with_pages g a = g.stood
