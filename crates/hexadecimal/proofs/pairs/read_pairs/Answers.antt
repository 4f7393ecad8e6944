use Rattle.hexadecimal.proofs.ByteFields.{by_hex}
use Rattle.hexadecimal.proofs.pairs.read_pairs.Goals as goal

pub returns-then-bytes-le-FEW-clause-spelled : goal.returns-then-bytes-le-FEW-clause-spelled
returns-then-bytes-le-FEW-clause-spelled c =
    (by_hex c.args.digits.now c.args.bytes.now c.decode_to_slice.new.out c.decode_to_slice.result
    c.requires.digits c.requires.size c.decode_to_slice.ensures.value).0

pub returns-then-bytes-le-FEW-clause-fits : goal.returns-then-bytes-le-FEW-clause-fits
returns-then-bytes-le-FEW-clause-fits c =
    (by_hex c.args.digits.now c.args.bytes.now c.decode_to_slice.new.out c.decode_to_slice.result
    c.requires.digits c.requires.size c.decode_to_slice.ensures.value).1
