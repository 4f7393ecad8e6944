use Rattle.std.proofs.Common.{arith}
use Rattle.hexadecimal.proofs.Judging.{block_more}
use Rattle.hexadecimal.proofs.byte_field.past_blocks.Goals as goal

pub loop-n-init : goal.loop-n-init
loop-n-init c = record { within = c.requires.within; digits = c.requires.digits }

pub overflow_sub-text : goal.overflow_sub-text
overflow_sub-text c = c.loop-n.invariant.within

pub loop-n-preserved : goal.loop-n-preserved
loop-n-preserved c =
    block_more c.args.text.now c.loop-n.n c.args.block c.are_digits.result c.loop-n.invariant (omega arith)
    c.if-are_digits.true c.are_digits.ensures
