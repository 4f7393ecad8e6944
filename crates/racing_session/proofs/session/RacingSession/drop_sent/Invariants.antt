use Rattle.racing_session.proofs.session.RacingSession.drop_sent.Given as goal

abbrev pub ghost-serve_behind : goal.ghost-serve_behind
ghost-serve_behind g a = g.stood
