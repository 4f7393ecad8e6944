use Rattle.std.proofs.Common.{length}
use Rattle.trace.specs.Sends.{waiting}
use Rattle.replay.specs.Telling.{SendsRun}
use Rattle.replay.proofs.Lines.{RunSofar}
use Rattle.replay.proofs.runs.run_lines.Given as goal

-- the first events are run and the text of their records sent
abbrev pub invariant-loop-rest : goal.invariant-loop-rest
invariant-loop-rest g l =
    RunSofar g.row.A.Denot l.lines (length l.fn.room) l.rest
    (λ events. SendsRun l.hosted g.I.Image.disk l.fn.board l.board events (g.W.Write.contents l.fn.writer)
    (g.W.Write.contents l.writer) (waiting l.fn.text) (waiting l.text))

abbrev pub decreases-loop-rest : goal.decreases-loop-rest
decreases-loop-rest g l = length l.rest
