use Rattle.std.proofs.Common.{arith}
use Rattle.trace.proofs.Fronts.{slot_one, slot_two}
use Rattle.trace.proofs.read.fast_path.take_slot.Goals as goal

pub returns-in-32 : goal.returns-in-32
returns-in-32 c =
    let low = c.in_ok-value_of in
    slot_one c.args.line.now low.field-0 c.in-32.len_at_least (omega arith)
    low.ensures.some.0 low.ensures.some.1

pub returns : goal.returns
returns c =
    let high = c.in_ok-value_of-2 in
    let low = c.in_ok-value_of-3 in
    slot_two c.args.line.now high.field-0 low.field-0 c.in-32-line.len_at_least (omega arith)
    high.ensures.some.0 low.ensures.some.0
    high.ensures.some.1 low.ensures.some.1 c.if-high-eq48.false
