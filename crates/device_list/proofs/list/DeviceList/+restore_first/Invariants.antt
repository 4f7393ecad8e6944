use Rattle.device_list.proofs.list.DeviceList.+restore_first.Given as goal

abbrev pub decreases-restore_first : goal.decreases-restore_first
decreases-restore_first g l = l.count
