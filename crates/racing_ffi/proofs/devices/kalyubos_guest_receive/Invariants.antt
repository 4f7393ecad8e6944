use Rattle.racing_ffi.proofs.devices.kalyubos_guest_receive.Given as goal

abbrev pub ghost-receive : goal.ghost-receive
ghost-receive g a = g.stood
