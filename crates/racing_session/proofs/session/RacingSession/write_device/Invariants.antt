use Rattle.racing_session.proofs.session.RacingSession.write_device.Given as goal

abbrev pub ghost-over : goal.ghost-over
ghost-over g a = g.stood
