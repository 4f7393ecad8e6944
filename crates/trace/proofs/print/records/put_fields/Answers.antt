use Rattle.trace.proofs.RecordLines.{line_put}
use Rattle.trace.proofs.print.records.put_fields.Goals as goal

pub returns : goal.returns
returns g c = line_put _ _ _ _ _ _ _ _ _ _ _ _ _ _ _ _ c.put_slot.ensures c.put_reply.ensures
    c.put_output.ensures c.put_words.ensures
