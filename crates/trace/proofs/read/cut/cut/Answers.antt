use Rattle.std.proofs.lemmas.List.{take_rest}
use Rattle.trace.specs.Cuts.{parts}
use Rattle.trace.proofs.Cutting.{cut_found, cut_unfound}
use Rattle.trace.proofs.read.cut.cut.Goals as goal

pub returns-in-Some : goal.returns-in-Some
unfolding parts
returns-in-Some c = rw take_rest (cut_found c.args.sign c.args.bytes.now c.in-Some.i c.in-Some.ensures)

pub returns-in-None : goal.returns-in-None
unfolding parts
returns-in-None c = cut_unfound c.args.sign c.args.bytes.now c.in-None.ensures
