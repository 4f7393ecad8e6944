use Rattle.racing_ffi.proofs.console.kalyubos_guest_input.Given as goal

abbrev pub ghost-input : goal.ghost-input
ghost-input g a = g.stood
