use Rattle.racing_ffi.proofs.frame.take_frame.Given as goal

abbrev pub ghost-drop_sent : goal.ghost-drop_sent
ghost-drop_sent g a = g.stood
