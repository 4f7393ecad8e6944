use Rattle.snapshot.proofs.reader.Reader.+more_devices.Given as goal

abbrev pub decreases-more_devices : goal.decreases-more_devices
decreases-more_devices l = l.count
