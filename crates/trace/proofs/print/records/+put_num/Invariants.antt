use Rattle.trace.proofs.print.records.+put_num.Given as goal

abbrev pub decreases-put_num : goal.decreases-put_num
decreases-put_num g l = l.n
