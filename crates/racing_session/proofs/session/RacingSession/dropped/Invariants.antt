use Rattle.racing_session.proofs.session.RacingSession.dropped.Given as goal

abbrev pub ghost-say : goal.ghost-say
ghost-say g a = g.stood
