use Rattle.racing_ffi.proofs.disk.kalyubos_guest_hold.Given as goal

abbrev pub ghost-say : goal.ghost-say
ghost-say g a = g.stood
