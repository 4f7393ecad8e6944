use Rattle.std.proofs.lemmas.List.{take_rest}
use Rattle.trace.specs.Cuts.{lines_of}
use Rattle.trace.proofs.Cutting.{cut_found, cut_unfound}
use Rattle.trace.proofs.read.cut.take_line.Goals as goal

pub returns-in-Some-clause-lines : goal.returns-in-Some-clause-lines
unfolding lines_of
returns-in-Some-clause-lines c = rw take_rest (cut_found 10 c.args.text.now c.in-Some.i c.in-Some.ensures)

pub returns-in-None-clause-none : goal.returns-in-None-clause-none
unfolding lines_of
returns-in-None-clause-none c = cut_unfound 10 c.args.text.now c.in-None.ensures
