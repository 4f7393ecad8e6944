use Rattle.racing_ffi.proofs.devices.kalyubos_guest_take_frame.Given as goal

abbrev pub ghost-take_frame : goal.ghost-take_frame
ghost-take_frame g a = g.stood
