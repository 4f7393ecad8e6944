use Rattle.std.proofs.Common.{◌<◌, get_or, ap, arith}
use Rattle.hexadecimal.specs.declared.digit.TheConstants.{VALUES}
use Rattle.hexadecimal.proofs.Table.{found, listed}
use Rattle.hexadecimal.proofs.digit.value_of.Goals as goal

pub returns-then-value-lt-NO-clause-some : goal.returns-then-value-lt-NO-clause-some
returns-then-value-lt-NO-clause-some c =
    let lt : get_or VALUES c.args.c 0 < 16 = omega arith in (lt, listed c.args.c (omega arith) lt)

pub returns-else-value-lt-NO-clause-none : goal.returns-else-value-lt-NO-clause-none
returns-else-value-lt-NO-clause-none c d lt e =
    omega (arith, found d lt, ap (λ x. get_or VALUES x 0) e)
