use Rattle.std.proofs.Common.{◌∙◌, refl, rules, sym, subst, List, None, ◌≡◌}
use Rattle.snapshot.specs.declared.saved.SavedDevice.{SavedDevice}
use Rattle.device_list.specs.Saved.{SuitDevices}
use Rattle.board.specs.Saved.{devices_taken_up}
use Rattle.board.proofs.Saving.{never_true}
use Rattle.board.proofs.TakenUp.{may_not_refill, may_refill}
use Rattle.board.proofs.slot.Slot.take_up.Goals as goal

pub refill-requires : goal.refill-requires
refill-requires g c =
    record { can = may_refill _ c.self.inside.memory c.as_slice-3.result.now c.self.inside.devices c.restore.new.self c.restore.ensures.restored (c.if-not-can_refill.ensures.0 refl) }

pub invariant_of-self : goal.invariant_of-self
invariant_of-self g c = record {
  block_kind = search rules;
  block_offers = search rules;
  block_generation = search rules;
  console_kind = search rules;
  console_offers = search rules;
  block_sound = search rules;
  console_sound = search rules;
  pending_fits = search rules;
  devices_sound = c.refill.ensures.sound c.self.inside.memory
      (c.restore.ensures.sound (subst (λ (saved : List SavedDevice). SuitDevices saved c.self.inside.devices)
      (c.as_slice.ensures.value ∙ sym c.as_slice-3.ensures.value) (c.if-not-suits-2.ensures.0 refl)) c.self.invariant.devices_sound);
}

pub returns-then-not-can_refill-clause-fault : goal.returns-then-not-can_refill-clause-fault
returns-then-not-can_refill-clause-fault g c =
    let never : devices_taken_up c.self.inside.memory c.as_slice-2.result.now _ c.self.inside.devices ≡ None =
    may_not_refill _ c.self.inside.memory c.as_slice-2.result.now c.self.inside.devices (c.if-not-can_restore.ensures.0 refl)
    (λ some. never_true (c.if-not-can_refill.ensures.1 some)) in
    search rules
