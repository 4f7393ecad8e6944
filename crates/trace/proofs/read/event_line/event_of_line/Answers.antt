use Rattle.trace.proofs.EventLines.{refused_says_none}
use Rattle.trace.proofs.read.event_line.event_of_line.Goals as goal

pub returns-in-Err-clause-none : goal.returns-in-Err-clause-none
returns-in-Err-clause-none g c =
    refused_says_none c.args.line.now c.in-Err.field-0 c.in-Err.ensures.err
