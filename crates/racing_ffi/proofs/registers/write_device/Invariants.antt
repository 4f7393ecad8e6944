use Rattle.racing_ffi.proofs.registers.write_device.Given as goal

abbrev pub ghost-write_device : goal.ghost-write_device
ghost-write_device g a = g.stood
