use Rattle.std.proofs.Common.{arith, refl}
use Rattle.trace.proofs.Passing.{sends_more, sends_same}
use Rattle.trace.proofs.RecordLines.{runs_are}
use Rattle.trace.proofs.print.asked.put_runs.Goals as goal

pub returns : goal.returns
returns g c =
    sends_same _ _ _ _ _ _ (runs_are c.args.runs.now _ _ (omega arith) refl)
    (sends_more _ _ _ _ _ _ _ _ c.put_run.ensures c.put_others.ensures)
