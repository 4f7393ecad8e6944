use Rattle.std.proofs.Common.{length, get_or, refl, arith, ap}
use Rattle.hexadecimal.specs.Spelling.{fixed}
use Rattle.hexadecimal.proofs.Numbers.{digit_in_fixed, length_fixed, one_fixed, reads_fixed_more, room}
use Rattle.hexadecimal.proofs.number_field.fixed_value.Goals as goal

pub loop-c-init : goal.loop-c-init
unfolding fixed
loop-c-init c = record { spelled = refl; below = omega arith }

pub value_at-requires : goal.value_at-requires
value_at-requires c =
    digit_in_fixed c.args.field.now c.requires.digits c.requires.n c.loop-c.c-index c.requires.is.spelled
    (omega arith)

pub overflow_mul-n : goal.overflow_mul-n
overflow_mul-n c =
    let few = c.requires.few in
    let len = length_fixed c.requires.digits c.requires.n in
    let same = ap length c.requires.is.spelled in
    let r = room c.args.field.now c.loop-c.c-index c.loop-c.n 8 c.loop-c.invariant.below (omega arith) in
    omega arith

pub overflow_add-n : goal.overflow_add-n
overflow_add-n c =
    let few = c.requires.few in
    let len = length_fixed c.requires.digits c.requires.n in
    let same = ap length c.requires.is.spelled in
    let small = c.value_at.ensures.small in
    let r = room c.args.field.now c.loop-c.c-index c.loop-c.n 8 c.loop-c.invariant.below (omega arith) in
    omega (arith, c.from.ensures)

pub loop-c-preserved : goal.loop-c-preserved
loop-c-preserved c =
    rw c.from.ensures (
    reads_fixed_more c.args.field.now c.loop-c.c-index c.loop-c.n c.value_at.result
    (get_or c.args.field.now c.loop-c.c-index 0) c.loop-c.invariant (omega arith) refl
    c.value_at.ensures.small c.value_at.ensures.is
    )

pub returns : goal.returns
returns c digits n h =
    one_fixed c.args.field.now c.loop-c.c-index c.loop-c.n digits n c.loop-c.invariant (omega arith) h
