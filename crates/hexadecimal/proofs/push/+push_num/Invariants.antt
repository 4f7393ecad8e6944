use Rattle.hexadecimal.proofs.push.+push_num.Given as goal

abbrev pub decreases-push_num : goal.decreases-push_num
decreases-push_num g l = l.n
