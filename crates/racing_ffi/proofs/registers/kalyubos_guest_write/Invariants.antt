use Rattle.racing_ffi.proofs.registers.kalyubos_guest_write.Given as goal

abbrev pub ghost-write : goal.ghost-write
ghost-write g a = g.stood

abbrev pub ghost-write_device : goal.ghost-write_device
ghost-write_device g a = g.stood
