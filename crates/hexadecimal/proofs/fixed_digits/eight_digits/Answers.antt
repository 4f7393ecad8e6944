use Rattle.std.proofs.Common.{arith}
use Rattle.hexadecimal.proofs.EightDigits.{eight_spelled}
use Rattle.hexadecimal.proofs.fixed_digits.eight_digits.Goals as goal

pub returns : goal.returns
returns c =
    eight_spelled c.args.n c.pair_of-first.result c.pair_of-second.result c.pair_of-third.result
    c.pair_of-fourth.result _ c.to_le_bytes.result
    (omega arith) c.pair_of-first.ensures c.pair_of-second.ensures c.pair_of-third.ensures
    c.pair_of-fourth.ensures (omega arith) c.to_le_bytes.ensures
