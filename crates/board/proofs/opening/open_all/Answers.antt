use Rattle.std.proofs.Common.{List, map, ap, sym, subst, ◌∙◌}
use Rattle.std.proofs.lemmas.List.{take_all}
use Rattle.guest_memory.specs.Faults.{AreGood as AreGoodRegions}
use Rattle.board.specs.declared.spec.SlotSpec.{SlotSpec}
use Rattle.board.proofs.Specs.{opened_more}
use Rattle.board.specs.Fault.{HasRoom}
use Rattle.board.specs.Slot.{opened}
use Rattle.board.proofs.opening.open_all.Goals as goal

pub open-requires : goal.open-requires
open-requires g c = record {
  memory =
      subst (λ (spec : SlotSpec). AreGoodRegions spec.regions) (sym c.spec-item.is)
      (c.requires.memory c.loop-spec.spec-index c.spec-item.result c.loop-spec-test.true);
  disk =
      subst HasRoom (sym c.spec-item.is)
      (c.requires.disk c.loop-spec.spec-index c.spec-item.result c.loop-spec-test.true);
}

pub loop-spec-preserved : goal.loop-spec-preserved
loop-spec-preserved g c =
    opened_more opened c.args.specs.now c.loop-spec.spec-index c.spec-item.result
    c.loop-spec.slots.items c.push.new.self.items c.in_ok-open.field-0
    c.loop-spec-test.true c.spec-item.is c.loop-spec.invariant c.in_ok-open.ensures c.in_ok-push.ensures.items

pub returns : goal.returns
returns g c =
    c.loop-spec.invariant ∙ ap (λ (specs : List SlotSpec). map opened specs)
    (take_all c.loop-spec.spec-index c.args.specs.now c.loop-spec-test.false)
