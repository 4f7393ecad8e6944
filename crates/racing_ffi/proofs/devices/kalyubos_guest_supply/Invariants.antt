use Rattle.racing_ffi.proofs.devices.kalyubos_guest_supply.Given as goal

abbrev pub ghost-supply : goal.ghost-supply
ghost-supply g a = g.stood
