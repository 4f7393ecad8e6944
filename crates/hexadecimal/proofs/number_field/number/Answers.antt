use Rattle.std.proofs.Common.{get_or, refl, sym, ◌∙◌, arith}
use Rattle.std.proofs.lemmas.Bool.{eqb-true}
use Rattle.hexadecimal.specs.Spelling.{num}
use Rattle.hexadecimal.proofs.Numbers.{are_digits_num, no_digit, no_number_empty, no_number_long, no_number_zero, reads_more, room}
use Rattle.hexadecimal.proofs.number_field.number.Goals as goal
use Rattle.hexadecimal.proofs.number_field.number.Goals.{then-is_empty-via-then-is_empty, then-is_empty-via-else-is_empty+then-field-gt-MOST_DIGITS, else-i-gt0-via-then-i-gt0+else-n-eq0, else-i-gt0-via-else-i-gt0}

pub returns-then-is_empty-clause-none : goal.returns-then-is_empty-clause-none
returns-then-is_empty-clause-none c h =
    elim c.then-is_empty.branch [
      | then-is_empty-via-then-is_empty w ↦ no_number_empty c.args.field.now
          (eqb-true _ _ (sym c.is_empty.ensures ∙ w.if-is_empty.true)) h.0 h.1.spelled
      | then-is_empty-via-else-is_empty+then-field-gt-MOST_DIGITS w ↦ no_number_long c.args.field.now 16
          (omega arith) (omega arith) h.0 h.1.fits h.1.spelled
    ]

pub returns-then-n-eq0-clause-none : goal.returns-then-n-eq0-clause-none
returns-then-n-eq0-clause-none c h =
    no_number_zero c.args.field.now c.loop-i.i c.loop-i.n h.0 c.loop-i.invariant (omega arith) (omega arith)
    (omega arith) h.1.spelled

pub overflow_mul-n : goal.overflow_mul-n
overflow_mul-n c =
    omega (arith, room c.args.field.now c.loop-i.i c.loop-i.n 16 c.loop-i.invariant.below (omega arith))

pub overflow_add-n : goal.overflow_add-n
overflow_add-n c =
    omega (
      arith,
      room c.args.field.now c.loop-i.i c.loop-i.n 16 c.loop-i.invariant.below (omega arith),
      c.in_ok-value_of.ensures.some,
      c.from.ensures,
    )

pub returns-in_err-value_of-clause-none : goal.returns-in_err-value_of-clause-none
returns-in_err-value_of-clause-none c =
    rw c.from_residual.ensures
    (λ h. no_digit c.args.field.now (num h.0) c.loop-i.i (get_or c.args.field.now c.loop-i.i 0)
    (are_digits_num h.0) (omega arith) refl c.in_err-value_of.ensures.none h.1.spelled)

pub loop-i-preserved : goal.loop-i-preserved
loop-i-preserved c =
    rw c.from.ensures (
    reads_more c.args.field.now c.loop-i.i c.loop-i.n c.in_ok-value_of.field-0
    (get_or c.args.field.now c.loop-i.i 0) c.loop-i.invariant (omega arith) refl
    c.in_ok-value_of.ensures.some.0 c.in_ok-value_of.ensures.some.1
    (λ pos.
    elim c.else-i-gt0.branch [
      | else-i-gt0-via-then-i-gt0+else-n-eq0 w ↦ omega arith
      | else-i-gt0-via-else-i-gt0 w ↦ absurd (omega arith)
    ])
    )
