use Rattle.std.proofs.Common.{length, sym, arith}
use Rattle.std.proofs.lemmas.Bool.{eqb-false, eqb-true}
use Rattle.hexadecimal.proofs.ByteFields.{bytes_read, said_none, said_pairs}
use Rattle.hexadecimal.proofs.byte_field.read_bytes.Goals as goal

pub read_pairs-requires-clause-digits : goal.read_pairs-requires-clause-digits
read_pairs-requires-clause-digits c =
    let some = eqb-false (length c.args.bytes.now) 0 (sym c.if-not-is_empty.ensures) in
    let size = c.requires.size in
    (said_pairs c.args.field.now c.requires.spelled (omega (arith, some))).digits

pub read_pairs-requires-clause-size : goal.read_pairs-requires-clause-size
read_pairs-requires-clause-size c =
    let some = eqb-false (length c.args.bytes.now) 0 (sym c.if-not-is_empty.ensures) in
    let size = c.requires.size in
    let pairs = said_pairs c.args.field.now c.requires.spelled (omega (arith, some)) in
    let even = pairs.even in
    omega (arith, size)

pub returns-then-not-is_empty : goal.returns-then-not-is_empty
returns-then-not-is_empty c =
    let some = eqb-false (length c.args.bytes.now) 0 (sym c.if-not-is_empty.ensures) in
    let size = c.requires.size in
    bytes_read c.args.field.now c.read_pairs.new.bytes (omega (arith, some)) c.read_pairs.ensures.spelled
    c.read_pairs.ensures.fits

pub returns-else-not-is_empty : goal.returns-else-not-is_empty
returns-else-not-is_empty c =
    said_none c.args.field.now c.args.bytes.now c.requires.spelled c.requires.size
    (eqb-true (length c.args.bytes.now) 0 (sym c.if-not-is_empty.ensures))
