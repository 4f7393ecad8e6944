use Rattle.std.proofs.Common.{[], sym, arith}
use Rattle.trace.specs.Records.{record_line}
use Rattle.trace.specs.Sends.{waiting}
use Rattle.trace.proofs.Passing.{sends_more, sends_none, sends_same}
use Rattle.trace.proofs.Printed.{joined_none, joined_more}
use Rattle.trace.proofs.print.records.put_records.Goals as goal

pub loop-entry-init : goal.loop-entry-init
loop-entry-init g c = sends_same _ _ _ _ _ _ (sym joined_none) (sends_none _ (waiting c.args.buffer.now))

pub loop-entry-preserved : goal.loop-entry-preserved
loop-entry-preserved g c =
    sends_same _ _ _ _ _ _ (joined_more record_line [] c.args.records.now c.loop-entry.entry-index
    c.entry-item.result (omega arith) c.entry-item.is)
    (sends_more _ _ _ _ _ _ _ _ c.loop-entry.invariant c.put_record.ensures)
