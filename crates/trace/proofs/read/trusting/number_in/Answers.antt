use Rattle.std.proofs.Common.{arith}
use Rattle.std.proofs.lemmas.List.{take_rest}
use Rattle.trace.proofs.TrustedNumbers.{number_begun, number_digit, number_more, number_room, number_whole}
use Rattle.trace.proofs.read.trusting.number_in.Goals as goal

pub loop-i-init : goal.loop-i-init
loop-i-init c = number_begun c.args.text.now c.requires

pub overflow_mul-n : goal.overflow_mul-n
overflow_mul-n c =
    let r = number_room c.args.text.now c.loop-i.i c.loop-i.n c.loop-i.invariant c.loop-i-test.true in
    omega arith

pub value_at-requires : goal.value_at-requires
value_at-requires c =
    number_digit c.args.text.now c.loop-i.i c.loop-i.n c.loop-i.invariant c.loop-i-test.true

pub overflow_add-n : goal.overflow_add-n
overflow_add-n c =
    let r = number_room c.args.text.now c.loop-i.i c.loop-i.n c.loop-i.invariant c.loop-i-test.true in
    let small = c.value_at.ensures.small in
    omega (arith, c.from.ensures)

pub loop-i-preserved : goal.loop-i-preserved
loop-i-preserved c =
    rw c.from.ensures (number_more c.args.text.now c.loop-i.i c.loop-i.n c.loop-i.invariant c.value_at.result
    c.loop-i-test.true c.value_at.ensures)

pub returns : goal.returns
returns c =
    rw take_rest (number_whole c.args.text.now c.loop-i.i c.loop-i.n c.loop-i.invariant c.loop-i-test.false)
