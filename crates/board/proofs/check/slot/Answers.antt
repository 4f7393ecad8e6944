use Rattle.std.proofs.Common.{subst}
use Rattle.std.specs.Prelude.{All}
use Rattle.std.proofs.lemmas.List.{take_all}
use Rattle.std.proofs.lemmas.List.Elements.{All-more}
use Rattle.board.specs.declared.spec.SlotSpec.{SlotSpec}
use Rattle.guest_memory.specs.Faults.{AreGood as AreGoodRegions, IsRefusedAt}
use Rattle.block_device.specs.declared.extent.Extent.{Extent}
use Rattle.board.specs.Extent.{IsApart}
use Rattle.board.specs.Fault.{share}
use Rattle.board.proofs.check.slot.Goals as goal

pub returns-in-Some-clause-fault : goal.returns-in-Some-clause-fault
returns-in-Some-clause-fault c =
    subst (λ rs. IsRefusedAt rs c.in-Some.field-0.region c.in-Some.field-0.fault) c.as_slice.ensures.same
    c.in-Some.ensures.fault

pub returns-clause-ok : goal.returns-clause-ok
returns-clause-ok c = record {
  memory = subst AreGoodRegions c.as_slice.ensures.same (c.fault_of_regions.ensures.good.0 c.in_default.is);
  depth = c.has_depth.ensures.0 c.if-not-has_depth.false;
  within = c.fits.ensures.value.0 c.if-not-fits.false;
  apart =
      subst (All (λ other. IsApart (share other) (share c.args.spec.now)))
      (take_all c.loop-other.other-index c.args.earlier.now c.loop-other-test.false) c.loop-other.invariant;
}

pub loop-other-preserved : goal.loop-other-preserved
loop-other-preserved c =
    let beside : SlotSpec → Type 0 = λ other. IsApart (share other) (share c.args.spec.now) in
    All-more beside c.args.earlier.now c.loop-other.other-index c.other-item.result c.loop-other-test.true
    c.loop-other.invariant
    (subst beside c.other-item.is
    (subst (λ (e : Extent). IsApart e (share c.args.spec.now)) c.share.ensures
    (subst (λ (e : Extent). IsApart c.share.result e) c.share-in-loop-other.ensures c.if-overlap.ensures.apart)))
