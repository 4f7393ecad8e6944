use Rattle.trace.proofs.Taking.{no_value}
use Rattle.trace.proofs.read.values.written_value.Goals as goal

pub returns-in_err-value-clause-none : goal.returns-in_err-value-clause-none
returns-in_err-value-clause-none c =
    rw c.from_residual.ensures (no_value c.args.width.now c.args.bytes.now _ c.in-Some.ensures.some
    c.in_err-value.ensures.none)
