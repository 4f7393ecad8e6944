use Rattle.std.proofs.Common.{arith}
use Rattle.trace.proofs.Fronts.{slot_one, slot_two}
use Rattle.trace.proofs.TrustedFields.{slot_bytes, two_bytes}
use Rattle.trace.proofs.read.trusting.slot_in.Goals as goal

pub bounds-text-1 : goal.bounds-text-1
bounds-text-1 c = omega (arith, (slot_bytes c.args.text.now c.requires).long)

pub bounds-text-1-2 : goal.bounds-text-1-2
bounds-text-1-2 c = omega (arith, (slot_bytes c.args.text.now c.requires).long)

pub value_at-requires : goal.value_at-requires
value_at-requires c = (slot_bytes c.args.text.now c.requires).first

pub value_at-requires-2 : goal.value_at-requires-2
value_at-requires-2 c = (slot_bytes c.args.text.now c.requires).first

pub value_at-requires-3 : goal.value_at-requires-3
value_at-requires-3 c = (two_bytes c.args.text.now c.requires c.if-text-eq32.false).second

pub returns-then-text-eq32 : goal.returns-then-text-eq32
returns-then-text-eq32 c =
    slot_one c.args.text.now c.value_at.result (slot_bytes c.args.text.now c.requires).long
    c.if-text-eq32.true c.value_at.ensures.small c.value_at.ensures.is

pub returns : goal.returns
returns c =
    let two = two_bytes c.args.text.now c.requires c.if-text-eq32.false in
    slot_two c.args.text.now c.value_at-2.result c.value_at-3.result two.long two.space
    c.value_at-2.ensures.small c.value_at-3.ensures.small c.value_at-2.ensures.is c.value_at-3.ensures.is
    two.other

pub slice_bounds-result-count-2 : goal.slice_bounds-result-count-2
slice_bounds-result-count-2 c = (two_bytes c.args.text.now c.requires c.if-text-eq32.false).long

pub slice_bounds-result-start-2 : goal.slice_bounds-result-start-2
slice_bounds-result-start-2 c =
    omega (arith, (two_bytes c.args.text.now c.requires c.if-text-eq32.false).long)
