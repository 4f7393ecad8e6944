use Rattle.std.proofs.Common.{length, get_or, refl, arith, ap}
use Rattle.hexadecimal.specs.Spelling.{fixed}
use Rattle.hexadecimal.proofs.Numbers.{are_digits_fixed, length_fixed, no_digit, reads_fixed_more, room}
use Rattle.hexadecimal.proofs.number_field.fixed_number.Goals as goal

pub returns-then-field-digits-clause-none : goal.returns-then-field-digits-clause-none
returns-then-field-digits-clause-none c n h = omega (arith, length_fixed c.args.digits n, ap length h.spelled)

pub loop-c-init : goal.loop-c-init
unfolding fixed
loop-c-init c = record { spelled = refl; below = omega arith }

pub overflow_mul-n : goal.overflow_mul-n
overflow_mul-n c = let r =
    room c.args.field.now c.loop-c.c-index c.loop-c.n 8 c.loop-c.invariant.below (omega arith) in omega arith

pub overflow_add-n : goal.overflow_add-n
overflow_add-n c = let r =
    room c.args.field.now c.loop-c.c-index c.loop-c.n 8 c.loop-c.invariant.below (omega arith) in
    omega (arith, c.in_ok-value_of.ensures.some, c.from.ensures)

pub returns-in_err-value_of-clause-none : goal.returns-in_err-value_of-clause-none
returns-in_err-value_of-clause-none c =
    rw c.from_residual.ensures (λ n h. no_digit c.args.field.now (fixed c.args.digits n) c.loop-c.c-index
    (get_or c.args.field.now c.loop-c.c-index 0) (are_digits_fixed c.args.digits n) (omega arith) refl
    c.in_err-value_of.ensures.none h.spelled)

pub loop-c-preserved : goal.loop-c-preserved
loop-c-preserved c =
    rw c.from.ensures (
    reads_fixed_more c.args.field.now c.loop-c.c-index c.loop-c.n c.in_ok-value_of.field-0
    (get_or c.args.field.now c.loop-c.c-index 0) c.loop-c.invariant (omega arith) refl
    c.in_ok-value_of.ensures.some.0 c.in_ok-value_of.ensures.some.1
    )
