use Rattle.racing_ffi.proofs.frame.drop_sent.Given as goal

abbrev pub ghost-drop_sent : goal.ghost-drop_sent
ghost-drop_sent g a = g.stood
