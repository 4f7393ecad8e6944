use Rattle.std.proofs.Common.{◌+◌, ◌*◌, sym, subst, ◌∙◌, arith}
use Rattle.hexadecimal.specs.Fields.{IsDigit}
use Rattle.hexadecimal.proofs.PairSteps.{halves, read_fits, read_none, read_spelled, read_step}
use Rattle.hexadecimal.proofs.pairs.read_many.Goals as goal

pub byte_of-requires-clause-high : goal.byte_of-requires-clause-high
byte_of-requires-clause-high c =
    let at = halves c.args.digits.now c.as_chunks.result.0.now c.loop-i.i c.from_le_bytes.result _
    (omega arith) c.requires.digits c.as_chunks.ensures.front c.from_le_bytes.ensures in
    subst IsDigit (sym at.low) (c.requires.digits (2 * c.loop-i.i) 0 (omega arith))

pub byte_of-requires-clause-low : goal.byte_of-requires-clause-low
byte_of-requires-clause-low c =
    let at = halves c.args.digits.now c.as_chunks.result.0.now c.loop-i.i c.from_le_bytes.result _
    (omega arith) c.requires.digits c.as_chunks.ensures.front c.from_le_bytes.ensures in
    subst IsDigit (sym at.high) (c.requires.digits (2 * c.loop-i.i + 1) 0 (omega arith))

pub loop-i-init : goal.loop-i-init
loop-i-init c = read_none c.args.digits.now c.args.bytes.now

pub loop-i-preserved : goal.loop-i-preserved
loop-i-preserved c =
    let at = halves c.args.digits.now c.as_chunks.result.0.now c.loop-i.i c.from_le_bytes.result _
    (omega arith) c.requires.digits c.as_chunks.ensures.front c.from_le_bytes.ensures in
    read_step c.args.digits.now c.loop-i.bytes c.loop-i.i c.byte_of.result (omega arith) (omega arith)
    (omega arith) (c.byte_of.ensures.high ∙ at.low) (c.byte_of.ensures.low ∙ at.high) c.loop-i.invariant

pub returns-clause-spelled : goal.returns-clause-spelled
returns-clause-spelled c =
    read_spelled c.args.digits.now c.loop-i.bytes c.loop-i.i (omega arith) (omega arith) c.loop-i.invariant

pub returns-clause-fits : goal.returns-clause-fits
returns-clause-fits c = read_fits c.args.digits.now c.loop-i.bytes c.loop-i.i (omega arith) c.loop-i.invariant
