use Rattle.std.proofs.Common.{arith}
use Rattle.trace.proofs.TrustedFields.{other_width, value_field, value_spelled}
use Rattle.trace.proofs.read.trusting.value_in.Goals as goal

pub fixed_value-requires : goal.fixed_value-requires
fixed_value-requires c =
    let is = c.if-width-eq4.true in
    value_spelled _ _ _ _ 8 c.requires.begins.has (omega (arith, is)) (omega arith)

pub fixed_value-requires-then-width-eq2 : goal.fixed_value-requires-then-width-eq2
fixed_value-requires-then-width-eq2 c =
    let is = c.if-width-eq2.true in
    value_spelled _ _ _ _ 4 c.requires.begins.has (omega (arith, is)) (omega arith)

pub fixed_value-requires-2 : goal.fixed_value-requires-2
fixed_value-requires-2 c =
    let has = c.requires.begins.has in
    let one = other_width c.args.width has.wide c.if-width-eq4.false c.if-width-eq2.false in
    value_spelled _ _ _ _ 2 has (omega (arith, one)) (omega arith)

pub returns-then-width-eq4 : goal.returns-then-width-eq4
returns-then-width-eq4 c value after h =
    let is = c.if-width-eq4.true in
    c.fixed_value.ensures 8 value (value_field c.args.text.now c.args.width value after 8 h
    (omega (arith, is)))

pub returns-then-width-eq2 : goal.returns-then-width-eq2
returns-then-width-eq2 c value after h =
    let is = c.if-width-eq2.true in
    c.fixed_value-then-width-eq2.ensures 4 value (value_field c.args.text.now c.args.width value after 4 h
    (omega (arith, is)))

pub returns : goal.returns
returns c value after h =
    let one = other_width c.args.width h.wide c.if-width-eq4.false c.if-width-eq2.false in
    c.fixed_value-2.ensures 2 value (value_field c.args.text.now c.args.width value after 2 h
    (omega (arith, one)))
