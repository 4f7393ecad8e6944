use Rattle.std.proofs.Common.{take}
use Rattle.std.specs.List.{flat_map}
use Rattle.trace.specs.Asked.{other_run}
use Rattle.trace.specs.Sends.{Sends, waiting}
use Rattle.trace.proofs.print.asked.put_others.Given as goal

-- the runs so far are put
abbrev pub invariant-loop-run : goal.invariant-loop-run
invariant-loop-run g l =
    Sends (g.W.Write.contents l.fn.out) (g.W.Write.contents l.out) (waiting l.fn.buffer)
    (flat_map other_run (take l.run-index l.runs)) (waiting l.buffer)
