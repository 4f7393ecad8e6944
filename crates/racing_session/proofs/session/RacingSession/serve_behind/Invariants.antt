use Rattle.racing_session.proofs.session.RacingSession.serve_behind.Given as goal

abbrev pub ghost-over : goal.ghost-over
ghost-over g a = g.stood
