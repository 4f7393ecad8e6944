use Rattle.std.proofs.Common.{arith}
use Rattle.trace.specs.Sends.{waiting}
use Rattle.trace.proofs.Passing.{sends_more, sends_none, sends_same}
use Rattle.trace.proofs.RecordLines.{others_more}
use Rattle.trace.proofs.print.asked.put_others.Goals as goal

pub loop-run-init : goal.loop-run-init
loop-run-init g c = sends_none _ (waiting c.args.buffer.now)

pub loop-run-preserved : goal.loop-run-preserved
loop-run-preserved g c =
    sends_same _ _ _ _ _ _ (others_more c.args.runs.now c.loop-run.run-index _ (omega arith))
    (sends_more _ _ _ _ _ _ _ _ c.loop-run.invariant
    (sends_more _ _ _ _ _ _ _ _ c.put.ensures c.put_run.ensures))
