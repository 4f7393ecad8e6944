use Rattle.std.proofs.Common.{◌≡◌, Some, length, sym, ◌∙◌, ap}
use Rattle.std.specs.List.{slice_get}
use Rattle.guest_memory.proofs.Ranges.{is_inside-tells}
use Rattle.board.specs.World.{disturbed_of}
use Rattle.board.proofs.Lists.{is_there}
use Rattle.board.proofs.Access.{bytes_put, bytes_stand, disturbed_kept}
use Rattle.board.proofs.Seats.{sound_set}
use Rattle.board.proofs.board.Board.write_memory.Goals as goal

-- the slot of that number
there : (g : _) (c : goal.After-self-2-1 g) → slice_get c.self.inside.slots.items c.args.slot
    ≡ Some c.in-Some.slot.now
there g c = is_there c.self.inside.slots.items c.args.slot c.in-Some.slot c.in-Some.ensures.item

pub invariant_of-self-2 : goal.invariant_of-self-2
invariant_of-self-2 g c =
    sound_set _ c.self.inside.slots.items c.args.slot c.in-Some.slot.now c.put_bytes.new.self
    c.put_bytes.ensures.place (there g c) c.self.invariant

pub returns-clause-step : goal.returns-clause-step
returns-clause-step g c =
    bytes_put _ g.I.Image.disk c.self.inside.slots.items c.self.inside.cache c.args.slot c.in-Some.slot
    c.put_bytes.new.self c.args.addr c.args.from.now c.put_bytes.result c.args.self.now
    (g.met.I.Image.whole c.self.inside.cache) c.self.invariant c.in-Some.ensures.item c.self.view_is
    c.put_bytes.ensures.test c.put_bytes.ensures.done

pub returns-clause-inside : goal.returns-clause-inside
returns-clause-inside g c =
    let here : slice_get c.args.self.now.slots c.args.slot ≡ Some c.in-Some.slot.now =
    ap (λ b. slice_get b.slots c.args.slot) (sym c.self.view_is) ∙ there g c in
    rw (here, c.put_bytes.ensures.test)
    (is_inside-tells c.in-Some.slot.now.memory c.args.addr (length c.args.from.now))

pub returns-clause-disturbed : goal.returns-clause-disturbed
returns-clause-disturbed g c =
    disturbed_kept c.self.inside.slots.items c.args.slot c.in-Some.slot.now c.put_bytes.new.self
    (there g c) c.put_bytes.ensures.disturbed
    ∙ ap (λ b. disturbed_of b.slots) c.self.view_is

pub returns-clause-put : goal.returns-clause-put
returns-clause-put g c =
    rw (← c.self.view_is)
    (bytes_stand c.self.inside.slots.items c.args.slot c.in-Some.slot.now c.put_bytes.new.self c.args.addr
    c.args.from.now c.put_bytes.result (there g c) c.put_bytes.ensures.done)
