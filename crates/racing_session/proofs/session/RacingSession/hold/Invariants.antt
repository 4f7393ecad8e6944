use Rattle.racing_session.proofs.session.RacingSession.hold.Given as goal

abbrev pub ghost-say : goal.ghost-say
ghost-say g a = g.stood
