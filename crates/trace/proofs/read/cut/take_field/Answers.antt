use Rattle.std.proofs.Common.{arith}
use Rattle.std.proofs.lemmas.List.{take_rest}
use Rattle.trace.specs.Cuts.{fields_of}
use Rattle.trace.proofs.Cutting.{cut_at, cut_none}
use Rattle.trace.proofs.read.cut.take_field.Goals as goal

pub returns-then-c-eq32 : goal.returns-then-c-eq32
unfolding fields_of
returns-then-c-eq32 c =
    rw take_rest (cut_at 32 c.args.line.now c.loop-i.i (omega arith) c.loop-i.invariant c.if-c-eq32.true)

pub returns : goal.returns
unfolding fields_of
returns c = cut_none 32 c.args.line.now c.loop-i.i (omega arith) c.loop-i.invariant
