use Rattle.std.proofs.Common.{length, length-take, take, arith}
use Rattle.trace.proofs.Spelled.{eight_spelled, spelled_by}
use Rattle.trace.proofs.read.fast_path.value_of_width.Goals as goal

pub fixed_value-requires : goal.fixed_value-requires
fixed_value-requires c =
    let field = take 8 c.args.field.now in
    let by = spelled_by field (c.are_digits.ensures.0 c.if-not-are_digits.false) in
    record { digits = length field; few = omega (arith, length-take 8 c.args.field.now); n = by.0; is = by.1 }

pub returns : goal.returns
returns c =
    eight_spelled c.args.field.now _ c.fixed_value.result (omega (arith, c.if-width-ne4.false)) c.if-field-ne8.false
    (c.are_digits.ensures.0 c.if-not-are_digits.false) c.fixed_value.ensures
