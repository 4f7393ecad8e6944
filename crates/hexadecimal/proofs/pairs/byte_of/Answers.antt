use Rattle.std.proofs.Common.{refl, arith}
use Rattle.hexadecimal.proofs.BytePairs.{high_read, low_read, values_are}
use Rattle.hexadecimal.proofs.pairs.byte_of.Goals as goal

pub overflow_mul-result : goal.overflow_mul-result
overflow_mul-result c =
    let below = (values_are c.args.pair _ c.requires.high c.requires.low refl).below in
    omega (arith, below)

pub overflow_add-result : goal.overflow_add-result
overflow_add-result c =
    let below = (values_are c.args.pair _ c.requires.high c.requires.low refl).below in
    omega (arith, below)

pub returns-clause-high : goal.returns-clause-high
returns-clause-high c = high_read c.args.pair _ _
    (values_are c.args.pair _ c.requires.high c.requires.low refl) refl

pub returns-clause-low : goal.returns-clause-low
returns-clause-low c = low_read c.args.pair _ _
    (values_are c.args.pair _ c.requires.high c.requires.low refl) refl
