use Rattle.hexadecimal.proofs.ByteFields.{minus_test, pairs_test}
use Rattle.hexadecimal.proofs.byte_field.are_bytes.Goals as goal

pub returns-then-is_minus : goal.returns-then-is_minus
returns-then-is_minus c = minus_test c.args.field.now c.is_minus.result c.if-is_minus.true c.is_minus.ensures

pub returns-else-is_minus : goal.returns-else-is_minus
returns-else-is_minus c =
    pairs_test c.args.field.now c.is_minus.result c.are_pairs.result c.if-is_minus.false c.is_minus.ensures
    c.are_pairs.ensures
