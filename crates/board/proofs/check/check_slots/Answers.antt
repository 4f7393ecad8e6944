use Rattle.std.proofs.Common.{get_or, take, subst, arith}
use Rattle.std.proofs.lemmas.Bool.Decides.{nat_tests}
use Rattle.std.proofs.lemmas.Option.{slice_get-get_or}
use Rattle.board.specs.declared.spec.SlotSpec.{SlotSpec}
use Rattle.board.specs.Fault.{IsFaultOf, IsGoodSlot}
use Rattle.board.proofs.Specs.{within_below, good_more, good_all}
use Rattle.board.proofs.check.check_slots.Goals as goal

pub slot-requires : goal.slot-requires
slot-requires c = within_below c.args.sectors c.args.slots.now c.loop-i.i (omega arith) c.loop-i.invariant

pub returns-in-Err-clause-fault : goal.returns-in-Err-clause-fault
returns-in-Err-clause-fault c = λ cache. record {
  few = c.if-slots-gt-MOST_SLOTS.false;
  spec = get_or c.args.slots.now c.loop-i.i c.index-slots-i.result;
  there = slice_get-get_or c.args.slots.now c.loop-i.i c.index-slots-i.result c.loop-i-test.true;
  before = c.loop-i.invariant;
  fault_is =
      subst (λ (spec : SlotSpec). IsFaultOf c.args.sectors (take c.loop-i.i c.args.slots.now)
      spec c.in-Err.fault)
      c.index-slots-i.is c.in-Err.ensures.fault;
}

pub loop-i-preserved : goal.loop-i-preserved
loop-i-preserved c =
    good_more c.args.sectors c.args.slots.now c.loop-i.i c.index-slots-i.result
    c.loop-i-test.true c.loop-i.invariant
    (subst (λ (s : SlotSpec). IsGoodSlot c.args.sectors (take c.loop-i.i c.args.slots.now) s)
    c.index-slots-i.is c.in_default.ensures.ok)

pub returns-clause-ok : goal.returns-clause-ok
returns-clause-ok c = record {
  some = grind (arith, nat_tests, c.is_empty.ensures, c.if-is_empty.false);
  few = c.if-slots-gt-MOST_SLOTS.false;
  each = good_all c.args.sectors c.args.slots.now c.loop-i.i (omega arith) c.loop-i.invariant;
}
