use Rattle.std.proofs.Common.{◌≡◌, List, ℕ, Bool, false, true, sym, ap, subst, ◌∙◌, refl}
use Rattle.std.specs.Prelude.{IsSome}
use Rattle.board.specs.declared.event.EventKind.{EventKind}
use Rattle.board.specs.declared.event.EventKind.TheVariants.{Host}
use Rattle.board.specs.declared.reply.Reply.TheVariants.{Busy, Done}
use Rattle.block_device.specs.Tags.{is_any}
use Rattle.board.specs.Backing.{tags_in}
use Rattle.board.specs.Hosting.{has_part, must_wait, notifies_block, waits_now}
use Rattle.board.specs.Outcome.{replies}
use Rattle.board.specs.Slot.{BoardSlot, state_of}
use Rattle.board.proofs.Beside.{place_still}
use Rattle.board.proofs.Flights.{held_beside, still_hosted}
use Rattle.board.proofs.Hosts.{busy_given, no_part, notified_given, own_of, part_by_host, part_by_ring, part_by_wait, ringing_silent, serves_part, serves_passing, waiting_silent, within_part, within_passing, told_given}
use Rattle.board.proofs.Ways.{must_by}
use Rattle.board.proofs.guest.Guest.hosted_turn.Goals as goal

pub returns-in-Host-clause-serves : goal.returns-in-Host-clause-serves
returns-in-Host-clause-serves g c = λ image health filled.
    let state = state_of image c.args.self.now in
    let said = c.in-Host.told in
    rw c.in-Host.is
    (serves_part (Host said) c.args.budget state health (state_of image c.told.new.self)
    c.told.result (g.O.Outlet.bytes c.args.out.now)
    (part_by_host state.host (Host said) state said c.requires.hosted refl)
    (told_given state said health (replies (state_of image c.told.new.self) c.told.result)
    c.requires.hosted (c.told.ensures.gives c.requires.hosted image)))

-- the event doesn't wait
free_of : {A : Type 0} (what : EventKind A) (slot now : BoardSlot) (result : Bool) → slot ≡ now
    → result ≡ waits_now what now.host → result ≡ false → waits_now what slot.host ≡ false
free_of what slot now result same is free =
    ap (λ (s : BoardSlot). waits_now what s.host) same ∙ sym is ∙ free

pub invariant_of-self : goal.invariant_of-self
invariant_of-self g c =
    held_beside c.args.what.now c.self.inside.slot c.answer_beside_image.new.self
    (free_of c.args.what.now c.self.inside.slot c.args.self.now c.holds_up.result c.self.view_is
    c.holds_up.ensures c.if-holds_up.false) c.answer_beside_image.ensures.keeps c.self.invariant

pub look-requires : goal.look-requires
look-requires g c = record {
  held = held_beside c.args.what.now c.self.inside.slot c.answer_beside_image.new.self
      (free_of c.args.what.now c.self.inside.slot c.args.self.now c.holds_up.result c.self.view_is
      c.holds_up.ensures c.if-holds_up.false) c.answer_beside_image.ensures.keeps c.self.invariant;
}

-- and one that does changes nothing
pub returns-then-holds_up : goal.returns-then-holds_up
returns-then-holds_up g c =
    let slot = c.args.self.now in
    let what = c.args.what.now in
    let out = g.O.Outlet.bytes c.args.out.now in
    let waits : waits_now what slot.host ≡ true = sym c.holds_up.ensures ∙ c.if-holds_up.true in
    record {
      serves = λ image health filled.
          serves_part what c.args.budget (state_of image slot) health (state_of image slot) Busy out
          (part_by_wait what (state_of image slot) waits) (busy_given (state_of image slot) what health waits);
      within = λ image limit limited.
          within_part limit what c.args.budget (state_of image slot) (state_of image slot) out out Busy
          (part_by_wait what (state_of image slot) waits)
          (waiting_silent limit (state_of image slot) (state_of image slot) what out Busy
          (must_by (is_any (tags_in slot.host)) (must_wait what) waits));
      limited = λ next is. absurd (cc);
      limit = refl;
      place = (refl, refl);
      disturbed = refl;
      there = λ is. cc;
      bad_range = λ is. absurd (cc);
      no_memory = λ is. absurd (cc);
    }

pub returns-in-Ok : goal.returns-in-Ok
returns-in-Ok g c =
    let handled = c.in-Ok.ensures in
    let slot = c.self.inside.slot in
    let hosted : IsSome slot.host =
    subst (λ (s : BoardSlot). IsSome s.host) (sym c.self.view_is) c.requires.hosted in
    let free = free_of c.args.what.now slot c.args.self.now c.holds_up.result c.self.view_is
    c.holds_up.ensures c.if-holds_up.false in
    let passes : (image : List ℕ) → has_part slot.host c.args.what.now (state_of image slot) ≡ false =
    λ image. no_part slot.host c.args.what.now (state_of image slot)
    (own_of c.args.what.now c.in_default.not-Host) free (sym (handled.notified hosted image)) in
    rw (← c.self.view_is)
    (record {
      serves = λ image health filled.
          serves_passing c.args.what.now c.args.budget (state_of image slot) health
          (state_of image c.answer_beside_image.new.self) c.in-Ok.turn _ _ (passes image)
          (handled.serves image health filled);
      within = λ image limit limited.
          within_passing limit c.args.what.now c.args.budget (state_of image slot)
          (state_of image c.answer_beside_image.new.self) _ _ c.in-Ok.turn (passes image)
          (handled.within image limit limited);
      limited = handled.limited;
      limit = handled.limit;
      place = handled.keeps.place;
      disturbed = handled.disturbed;
      there = handled.there;
      bad_range = handled.bad_range;
      no_memory = handled.no_memory;
    })

pub returns-in-Err : goal.returns-in-Err
returns-in-Err g c =
    let handled = c.in-Err.ensures in
    let slot = c.self.inside.slot in
    let mid = c.answer_beside_image.new.self in
    let hosted : IsSome slot.host =
    subst (λ (s : BoardSlot). IsSome s.host) (sym c.self.view_is) c.requires.hosted in
    let free = free_of c.args.what.now slot c.args.self.now c.holds_up.result c.self.view_is
    c.holds_up.ensures c.if-holds_up.false in
    let rings : (image : List ℕ) → notifies_block c.args.what.now (state_of image slot) ≡ true =
    λ image. sym (handled.notified hosted image) in
    let part : (image : List ℕ) → has_part slot.host c.args.what.now (state_of image slot) ≡ true =
    λ image. part_by_ring slot.host c.args.what.now (state_of image slot) hosted (rings image) in
    rw (← c.self.view_is)
    (record {
      serves = λ image health filled.
          rw (handled.silent)
          (serves_part c.args.what.now c.args.budget (state_of image slot) health
          (state_of image c.look.new.self) Done (g.O.Outlet.bytes c.args.out.now) (part image)
          (notified_given (state_of image slot) (state_of image mid) (state_of image c.look.new.self)
          c.args.what.now health hosted free (rings image) (handled.readied image)
          (c.look.ensures.looks (still_hosted slot.host mid.host handled.keeps.host hosted) image)));
      within = λ image limit limited.
          rw (handled.silent)
          (within_part limit c.args.what.now c.args.budget (state_of image slot)
          (state_of image c.look.new.self) (g.O.Outlet.bytes c.args.out.now)
          (g.O.Outlet.bytes c.args.out.now) Done (part image)
          (ringing_silent limit (state_of image slot) (state_of image c.look.new.self) c.args.what.now
          (g.O.Outlet.bytes c.args.out.now) Done (rings image)));
      limited = λ next is. absurd (cc);
      limit = handled.limit;
      place = place_still slot mid c.look.new.self handled.keeps.place
          (ap (λ (s : BoardSlot). s.extent) c.look.ensures.rest, ap (λ (s : BoardSlot). s.spare) c.look.ensures.rest);
      disturbed = ap (λ (s : BoardSlot). s.disturbed) c.look.ensures.rest ∙ handled.disturbed;
      there = λ is. cc;
      bad_range = λ is. absurd (cc);
      no_memory = λ is. absurd (cc);
    })
