-- While nothing is in flight a restore is what it is over an image.
use Rattle.std.proofs.Common.{◌≡◌, false, ap, refl, sym, ◌∙◌}
use Rattle.block_device.specs.Tags.{is_any}
use Rattle.device_list.specs.List.{are_at_work}
use Rattle.board.specs.Backing.{tags_in}
use Rattle.board.specs.Slot.{BoardSlot, is_at_work, state_of}
use Rattle.board.proofs.Flights.{held_none, same_tags}
use Rattle.board.proofs.Hosts.{both_idle, restore_answered, restore_busy, restore_passes}
use Rattle.board.proofs.guest.Guest.restore.Goals as goal

pub invariant_of-self : goal.invariant_of-self
invariant_of-self g c =
    held_none c.restore.new.self
    (ap is_any (same_tags _ _ c.restore.ensures.host)
    ∙ ap (λ (s : BoardSlot). is_any (tags_in s.host)) c.self.view_is
    ∙ (both_idle (is_any (tags_in c.args.self.now.host)) (are_at_work c.args.self.now.devices)
    (sym c.is_at_work.ensures ∙ c.if-is_at_work.false)).0)

pub returns-then-is_at_work-clause-answers : goal.returns-then-is_at_work-clause-answers
returns-then-is_at_work-clause-answers g c = record {
  given = λ image health filled.
      restore_busy g.row.A.Denot (state_of image c.args.self.now) c.args.from.now health
      (sym c.is_at_work.ensures ∙ c.if-is_at_work.true);
  place = (refl, refl);
  disturbed = refl;
  answered = λ lacks. absurd (cc (lacks));
}

pub returns-clause-answers : goal.returns-clause-answers
returns-clause-answers g c =
    let slot = c.self.inside.slot in
    let idle : is_at_work slot ≡ false =
    ap is_at_work c.self.view_is ∙ (sym c.is_at_work.ensures ∙ c.if-is_at_work.false) in
    let both = both_idle (is_any (tags_in slot.host)) (are_at_work slot.devices) idle in
    rw (← c.self.view_is)
    (record {
      given = λ image health filled.
          restore_passes _ image slot c.restore.new.self c.args.from.now c.restore.result c.refusal.result health
          both.0 both.1 c.refusal.ensures filled c.restore.ensures.ok c.restore.ensures.fault
          c.restore.ensures.kept;
      place = c.restore.ensures.place;
      disturbed = c.restore.ensures.disturbed;
      answered = restore_answered _ c.refusal.result;
    })
