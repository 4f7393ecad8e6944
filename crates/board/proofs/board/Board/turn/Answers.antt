use Rattle.std.proofs.Common.{◌≡◌, ℕ, List, ◌≤◌, Option, Some, None, length, sym, ◌∙◌, ap, subst, arith}
use Rattle.std.specs.Prelude.{IsSomeAnd, slice_set}
use Rattle.std.specs.List.{slice_get}
use Rattle.std.proofs.lemmas.Option.{same_Some}
use Rattle.board.specs.Slot.{BoardSlot, state_of, whole_extent}
use Rattle.board.specs.Image.{Tells}
use Rattle.board.specs.Pausing.{MayLackMemoryIn}
use Rattle.board.specs.World.{disturbed_of}
use Rattle.board.proofs.Outside.{outside_kept}
use Rattle.board.proofs.Lists.{get_set, is_there, not_there, others_kept}
use Rattle.board.proofs.Seats.{extents_of-set, noted_none, noted_set, set_same, slot_within, stays_in_extents, stays_same, takes}
use Rattle.board.proofs.Touching.{touches_missing, touches_slot}
use Rattle.board.proofs.board.Board.turn.Goals as goal

pub returns-in_default-clause-noted : goal.returns-in_default-clause-noted
returns-in_default-clause-noted g c =
    rw (← c.self.view_is, c.missing.ensures)
    (noted_none c.args.slot (g.I.Image.disk c.self.inside.cache).failures
    (disturbed_of c.self.inside.slots.items))

pub returns-in_default-clause-stays : goal.returns-in_default-clause-stays
returns-in_default-clause-stays g c =
    rw (← c.self.view_is) (stays_same g.I.Image.disk
    (record { slots = c.self.inside.slots.items; image = c.self.inside.cache }))

-- the slot of that number
there : (g : _) (c : goal.After-self-2-1 g) → slice_get c.self.inside.slots.items c.args.slot
    ≡ Some c.in-Some.slot.now
there g c =
    is_there c.self.inside.slots.items c.args.slot c.in-Some.slot c.in-Some.ensures.item

pub turn-turn-requires : goal.turn-turn-requires
turn-turn-requires g c = record {
  lies =
      slot_within _ c.self.inside.slots.items c.args.slot c.in-Some.slot.now c.self.invariant.within
      (is_there c.self.inside.slots.items c.args.slot c.in-Some.slot c.in-Some.ensures.item);
}

pub invariant_of-self-2 : goal.invariant_of-self-2
invariant_of-self-2 g c =
    rw (
      extents_of-set c.self.inside.slots.items c.args.slot c.in-Some.slot.now c.turn-turn.new.self
          (there g c) c.turn-turn.ensures.stays.place,
      c.turn-turn.ensures.stays.image.outside.sectors,
    )
    c.self.invariant

pub returns-clause-takes : goal.returns-clause-takes
returns-clause-takes g c tells below =
    let old = g.I.Image.disk c.self.inside.cache in
    let new = g.I.Image.disk c.turn-turn.new.cache in
    let telling : Tells old = subst (λ b. Tells (g.I.Image.disk b.image)) (sym c.self.view_is) tells in
    let kept = outside_kept (whole_extent c.in-Some.slot.now) old.contents new.contents telling
    c.turn-turn.ensures.stays.image.outside.contents in
    rw (← c.self.view_is, c.after.ensures.turn)
    (takes _ c.self.inside.slots.items old new c.args.slot c.in-Some.slot.now c.turn-turn.new.self
    c.turn-turn.result _ _ _ _
    c.self.invariant.apart (there g c) c.turn-turn.ensures.stays.place c.turn-turn.ensures.noted kept.outside
    (c.turn-turn.ensures.serves telling) c.after.ensures.shown)

pub returns-clause-stays : goal.returns-clause-stays
returns-clause-stays g c =
    rw (← c.self.view_is)
    (stays_in_extents g.I.Image.disk c.self.inside.slots.items c.self.inside.cache c.turn-turn.new.cache
    c.args.slot c.in-Some.slot.now c.turn-turn.new.self (there g c) c.turn-turn.ensures.stays)

pub returns-clause-noted : goal.returns-clause-noted
returns-clause-noted g c =
    rw (← c.self.view_is, c.after.ensures.turn)
    (noted_set c.self.inside.slots.items c.args.slot c.in-Some.slot.now c.turn-turn.new.self _ (there g c)
    c.turn-turn.ensures.noted)

pub returns-clause-bad_range_keeps : goal.returns-clause-bad_range_keeps
returns-clause-bad_range_keeps g c refused =
    let kept = c.turn-turn.ensures.bad_range (sym c.after.ensures.turn ∙ refused) in
    let same = set_same c.self.inside.slots.items c.args.slot c.in-Some.slot.now c.turn-turn.new.self
    (there g c) kept.0 in
    rw (same, kept.1) c.self.view_is

pub returns-clause-no_memory : goal.returns-clause-no_memory
returns-clause-no_memory g c lacking =
    let here : slice_get c.args.self.now.slots c.args.slot ≡ Some c.in-Some.slot.now =
    ap (λ b. slice_get b.slots c.args.slot) (sym c.self.view_is) ∙ there g c in
    subst (λ (o : Option BoardSlot). IsSomeAnd o (λ slot. (image : List ℕ)
    → MayLackMemoryIn c.args.work (state_of image slot))) (sym here)
    (c.turn-turn.ensures.no_memory (sym c.after.ensures.turn ∙ lacking))

pub returns-clause-others : goal.returns-clause-others
returns-clause-others g c other differ =
    others_kept c.self.inside.slots.items c.args.slot c.turn-turn.new.self other differ
    ∙ ap (λ b. slice_get b.slots other) c.self.view_is

pub returns-in_default-clause-within : goal.returns-in_default-clause-within
returns-in_default-clause-within g c limit limited found after here =
    let none : slice_get c.args.self.now.slots c.args.slot ≡ None =
    rw (← c.self.view_is) (not_there c.self.inside.slots.items c.args.slot c.in_default.ensures.item) in
    absurd (cc)

pub returns-clause-within : goal.returns-clause-within
returns-clause-within g c limit limited found after here now =
    let was : slice_get c.args.self.now.slots c.args.slot ≡ Some c.in-Some.slot.now =
    ap (λ b. slice_get b.slots c.args.slot) (sym c.self.view_is) ∙ there g c in
    let is : c.in-Some.slot.now ≡ found = same_Some c.in-Some.slot.now found (sym was ∙ here) in
    let set : c.turn-turn.new.self ≡ after =
    same_Some c.turn-turn.new.self after
    (sym (get_set c.self.inside.slots.items c.args.slot c.in-Some.slot.now c.turn-turn.new.self
    (there g c)) ∙ now) in
    rw (← is, ← set, ← c.self.view_is, c.after.ensures.turn) (c.turn-turn.ensures.within limit limited)

pub returns-in_default-clause-touches : goal.returns-in_default-clause-touches
returns-in_default-clause-touches g c =
    let past : length c.self.inside.slots.items ≤ c.args.slot =
    grind (arith, c.in_default.ensures.variant.1) in
    rw (← c.self.view_is) (touches_missing g.I.Image.moment g.I.Image.may_leave g.I.Image.left_since
    c.self.inside.slots.items c.args.slot c.self.inside.cache past)

pub returns-clause-touches : goal.returns-clause-touches
returns-clause-touches g c =
    rw (← c.self.view_is) (touches_slot g.I.Image.moment g.I.Image.may_leave g.I.Image.left_since
    c.self.inside.slots.items (slice_set c.self.inside.slots.items c.args.slot c.turn-turn.new.self)
    c.args.slot c.in-Some.slot.now c.self.inside.cache c.turn-turn.new.cache (there g c)
    c.turn-turn.ensures.touches)

pub returns-in_default-clause-shown : goal.returns-in_default-clause-shown
returns-in_default-clause-shown g c found here =
    let none : slice_get c.args.self.now.slots c.args.slot ≡ None =
    rw (← c.self.view_is) (not_there c.self.inside.slots.items c.args.slot c.in_default.ensures.item) in
    absurd (cc)

pub returns-clause-shown : goal.returns-clause-shown
returns-clause-shown g c found here =
    let set : c.turn-turn.new.self ≡ found =
    same_Some c.turn-turn.new.self found
    (sym (get_set c.self.inside.slots.items c.args.slot c.in-Some.slot.now c.turn-turn.new.self
    (there g c)) ∙ here) in
    rw (← set) c.after.ensures.shown
