use Rattle.hexadecimal.proofs.push.+push_fixed.Given as goal

abbrev pub decreases-push_fixed : goal.decreases-push_fixed
decreases-push_fixed g l = l.digits
