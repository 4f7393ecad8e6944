use Rattle.racing_ffi.proofs.registers.kalyubos_guest_go_on.Given as goal

abbrev pub ghost-go_on : goal.ghost-go_on
ghost-go_on g a = g.stood
