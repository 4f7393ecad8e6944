use Rattle.std.proofs.Common.{arith}
use Rattle.std.proofs.lemmas.List.{length_push}
use Rattle.trace.specs.Words.{shape_of}
use Rattle.trace.proofs.Values.{all_values, left_over, missing, one_more, wrong}
use Rattle.trace.proofs.read.values.values_in.Goals as goal

pub returns-in_err-bytes-clause-none : goal.returns-in_err-bytes-clause-none
returns-in_err-bytes-clause-none c =
    let l = c.loop-field in
    rw c.from_residual.ensures (missing (shape_of c.args.width.now) c.args.fields.now l.values.items
    l.field-index _ _ l.invariant.0 l.invariant.1 (omega arith) c.in_err-bytes.ensures.none)

pub returns-in_err-value_of-clause-none : goal.returns-in_err-value_of-clause-none
returns-in_err-value_of-clause-none c =
    let l = c.loop-field in
    rw c.from_residual-in_err-value_of.ensures
    (wrong (shape_of c.args.width.now) c.args.fields.now l.values.items l.field-index _ _ l.invariant.0
    l.invariant.1 _ _ _ (omega arith) c.in_ok-bytes.ensures.some c.in_err-value_of.ensures.none)

pub loop-field-preserved : goal.loop-field-preserved
loop-field-preserved c =
    let l = c.loop-field in
    let more = one_more (shape_of c.args.width.now) c.args.fields.now l.values.items l.field-index _ _
    l.invariant.0 l.invariant.1 _ _ _ _ (omega arith) l.invariant.2 c.in_ok-bytes.ensures.some
    c.in_ok-value_of.ensures.some in
    rw c.push.ensures.items (
      omega (
        arith,
        l.invariant.0,
        length_push l.values.items c.in_ok-value_of.field-0,
      ),
      more.0,
      more.1,
    )

pub returns-in_err-at_end-clause-none : goal.returns-in_err-at_end-clause-none
returns-in_err-at_end-clause-none c =
    let l = c.loop-field in
    rw c.from_residual-in_err-at_end.ensures
    (left_over (shape_of c.args.width.now) c.args.fields.now l.values.items l.field-index _ _
    l.invariant.0 l.invariant.1 (omega arith) c.in_err-at_end.ensures.none)

pub returns-clause-some : goal.returns-clause-some
returns-clause-some c =
    let l = c.loop-field in
    all_values (shape_of c.args.width.now) c.args.fields.now l.values.items l.field-index _ _ l.invariant.0
    l.invariant.1 (omega arith) l.invariant.2 c.in_ok-at_end.ensures.some
