use Rattle.trace.proofs.read.cut.+nth_field.Given as goal

abbrev pub decreases-nth_field : goal.decreases-nth_field
decreases-nth_field l = l.n
