use Rattle.std.proofs.Common.{get_or, arith}
use Rattle.hex.specs.Hex.{lower_digits}
use Rattle.hex.proofs.Pairs.{encode_step, encode_done}
use Rattle.hexadecimal.specs.Spelling.{digit}
use Rattle.hexadecimal.proofs.BytePairs.{first_half, second_half}
use Rattle.hexadecimal.proofs.pairs.spell_many.Goals as goal

pub loop-i-preserved : goal.loop-i-preserved
unfolding digit
loop-i-preserved c =
    let byte = get_or c.args.bytes.now c.loop-i.i 0 in
    encode_step lower_digits c.args.bytes.now c.loop-i.digits c.loop-i.i _ _ (omega arith) (omega arith)
    (first_half byte c.computed_pair-pair.result (omega arith) c.computed_pair-pair.ensures)
    (second_half byte c.computed_pair-pair.result (omega arith)
    c.computed_pair-pair.ensures) c.loop-i.invariant

pub returns : goal.returns
returns c = encode_done lower_digits c.args.bytes.now c.loop-i.digits c.loop-i.i (omega arith)
    (omega arith) c.loop-i.invariant
