use Rattle.replay.proofs.LastLines.{line_parts}
use Rattle.replay.proofs.last_line.write_trace_fault.Goals as goal

pub returns-in_default : goal.returns-in_default
returns-in_default g c =
    rw (line_parts c.args.fault.now.line c.args.fault.now.kind c.in_default.not-NoMemory)
    (rw (
      c.as_bytes-line.ensures.value,
      c.format.ensures.text,
      c.as_bytes-in_default.ensures.value,
      c.kind_end.ensures,
    ) at c.write_three.ensures)
