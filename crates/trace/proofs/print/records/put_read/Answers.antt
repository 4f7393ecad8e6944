use Rattle.trace.specs.Records.{read_line}
use Rattle.trace.proofs.Passing.{sends_more}
use Rattle.trace.proofs.RecordLines.{line_put}
use Rattle.trace.proofs.print.records.put_read.Goals as goal

pub returns : goal.returns
unfolding read_line
returns g c = line_put _ _ _ _ _ _ _ _ _ _ _ _ _ _ _ _ c.put_slot.ensures
    (sends_more _ _ _ _ _ _ _ _ c.put.ensures c.put_bytes.ensures) c.put_output.ensures c.put_words.ensures
