use Rattle.std.proofs.Common.{take}
use Rattle.trace.specs.Records.{records_text}
use Rattle.trace.specs.Sends.{Sends, waiting}
use Rattle.trace.proofs.print.records.put_records.Given as goal

-- the text of the records so far is put
abbrev pub invariant-loop-entry : goal.invariant-loop-entry
invariant-loop-entry g l =
    Sends (g.W.Write.contents l.fn.out) (g.W.Write.contents l.out) (waiting l.fn.buffer)
    (records_text (take l.entry-index l.records)) (waiting l.buffer)
