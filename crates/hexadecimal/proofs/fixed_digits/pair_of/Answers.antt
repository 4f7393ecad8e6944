use Rattle.std.proofs.Common.{arith}
use Rattle.hexadecimal.proofs.Table.{first_listed, second_listed}
use Rattle.hexadecimal.proofs.fixed_digits.pair_of.Goals as goal

pub returns : goal.returns
returns c =
    let first = first_listed c.args.byte (omega arith) in
    let second = second_listed c.args.byte (omega arith) in
    omega (arith, first, second, c.from_le_bytes.ensures)
