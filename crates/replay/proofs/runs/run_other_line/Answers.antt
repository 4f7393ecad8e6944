use Rattle.replay.proofs.runs.run_other_line.Goals as goal

pub run_event-requires-clause-room : goal.run_event-requires-clause-room
run_event-requires-clause-room g c = c.requires.room _ _ c.take_event-parsed.ensures
