use Rattle.std.proofs.Common.{◌≡◌, Some, None, sym, ◌∙◌, ap}
use Rattle.std.specs.Prelude.{slice_set}
use Rattle.std.specs.List.{slice_get}
use Rattle.std.proofs.lemmas.Option.{same_Some}
use Rattle.board.specs.declared.event.EventKind.TheVariants.{Restore}
use Rattle.board.specs.Restoring.{restore_reply}
use Rattle.board.proofs.Lists.{get_set, is_there, not_there}
use Rattle.board.proofs.Access.{LeavesQuietly, answers_missing, kept_board, leaves_quietly}
use Rattle.board.proofs.Seats.{sound_set}
use Rattle.board.proofs.board.Board.restore.Goals as goal

-- the slot of that number
found : (g : _) (c : goal.After-self-2-1 g) → slice_get c.self.inside.slots.items c.args.slot
    ≡ Some c.in-Some.found.now
found g c = is_there c.self.inside.slots.items c.args.slot c.in-Some.found c.in-Some.ensures.item

pub invariant_of-self-2 : goal.invariant_of-self-2
invariant_of-self-2 g c =
    sound_set _ c.self.inside.slots.items c.args.slot c.in-Some.found.now c.restore.new.self
    c.restore.ensures.answers.place (found g c) c.self.invariant

-- what is left of the board
left : (g : _) (c : goal.After-self-2-1 g)
    → LeavesQuietly g.I.Image.disk c.args.self.now c.args.slot (Restore c.args.from.now)
    (restore_reply {A = g.row.A.Denot} c.restore.result)
    (record {
      slots = slice_set c.self.inside.slots.items c.args.slot c.restore.new.self;
      image = c.self.inside.cache;
    })
left g c =
    leaves_quietly g.I.Image.disk c.self.inside.slots.items c.self.inside.cache c.args.slot c.in-Some.found
    c.restore.new.self (Restore c.args.from.now) (restore_reply c.restore.result) c.args.self.now
    (g.met.I.Image.whole c.self.inside.cache) c.self.invariant c.in-Some.ensures.item c.self.view_is
    c.restore.ensures.answers

pub returns-clause-step : goal.returns-clause-step
returns-clause-step g c = (left g c).step

pub returns-clause-others : goal.returns-clause-others
returns-clause-others g c = (left g c).others

pub returns-clause-extents : goal.returns-clause-extents
returns-clause-extents g c = (left g c).extents

pub returns-clause-disturbed : goal.returns-clause-disturbed
returns-clause-disturbed g c = (left g c).disturbed

there : (g : _) (c : goal.After-self-2-1 g) → slice_get c.args.self.now.slots c.args.slot
    ≡ Some c.in-Some.found.now
there g c =
    ap (λ b. slice_get b.slots c.args.slot) (sym c.self.view_is)
    ∙ found g c

pub returns-in_default-clause-step : goal.returns-in_default-clause-step
returns-in_default-clause-step g c tells =
    answers_missing g.I.Image.disk c.self.inside.slots.items c.self.inside.cache c.args.slot
    (Restore c.args.from.now) c.args.self.now c.in_default.ensures.item c.self.view_is

pub returns-in_default-clause-busy : goal.returns-in_default-clause-busy
returns-in_default-clause-busy g c =
    let none : slice_get c.args.self.now.slots c.args.slot ≡ None =
    rw (← c.self.view_is) (not_there c.self.inside.slots.items c.args.slot c.in_default.ensures.item) in
    (λ is. absurd (cc), λ some. absurd (rw none at some))

pub returns-in_default-clause-taken : goal.returns-in_default-clause-taken
returns-in_default-clause-taken g c saved old new snapshot before after like rests =
    let none : slice_get c.args.self.now.slots c.args.slot ≡ None =
    rw (← c.self.view_is) (not_there c.self.inside.slots.items c.args.slot c.in_default.ensures.item) in
    absurd (cc (before, none))

pub returns-clause-busy : goal.returns-clause-busy
returns-clause-busy g c = rw (there g c) c.restore.ensures.busy

pub returns-clause-fault : goal.returns-clause-fault
returns-clause-fault g c why is = rw (there g c) (c.restore.ensures.fault why is)

pub returns-clause-taken : goal.returns-clause-taken
returns-clause-taken g c saved old new snapshot before after like rests =
    let is : c.in-Some.found.now ≡ old = same_Some c.in-Some.found.now old (sym (there g c) ∙ before) in
    let set : c.restore.new.self ≡ new =
    same_Some c.restore.new.self new
    (sym (get_set c.self.inside.slots.items c.args.slot c.in-Some.found.now c.restore.new.self
    (found g c)) ∙ after) in
    rw (← is, ← set) (c.restore.ensures.taken saved snapshot (rw (← is) at like) (rw (← is) at rests))

pub returns-clause-kept : goal.returns-clause-kept
returns-clause-kept g c =
    kept_board c.restore.result c.self.inside.slots.items c.self.inside.cache c.args.slot c.in-Some.found.now
    c.restore.new.self c.args.self.now
    (found g c)
    c.self.view_is c.restore.ensures.kept
