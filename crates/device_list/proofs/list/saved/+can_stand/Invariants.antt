use Rattle.device_list.proofs.list.saved.+can_stand.Given as goal

abbrev pub decreases-can_stand : goal.decreases-can_stand
decreases-can_stand g l = l.count
