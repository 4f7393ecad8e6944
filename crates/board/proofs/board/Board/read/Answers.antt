use Rattle.std.proofs.Common.{◌≡◌, Some, length, refl, sym, subst}
use Rattle.std.specs.List.{slice_get}
use Rattle.std.proofs.lemmas.Option.{slice_get_read}
use Rattle.board.specs.Image.{Tells}
use Rattle.board.proofs.Access.{register_at}
use Rattle.board.proofs.board.Board.read.Goals as goal

pub returns-clause-value : goal.returns-clause-value
returns-clause-value g c tells =
    let telling : Tells (g.I.Image.disk c.self.inside.cache) =
    subst (λ b. Tells (g.I.Image.disk b.image)) (sym c.self.view_is) tells in
    let there : slice_get c.self.inside.slots.items c.args.slot ≡ Some c.slot.result.now =
    rw (c.slot.ensures, ← c.deref.ensures.value)
    (slice_get_read c.deref.result.now (length c.deref.result.now) c.args.slot
    c.in_ok-found.found.now refl c.in_ok-found.ensures.lookup.3.0 (c.in_ok-found.ensures.lookup.3.1
    c.in_ok-found.found.now)) in
    rw (← c.self.view_is)
    (register_at c.self.inside.slots.items (g.I.Image.disk c.self.inside.cache) c.args.slot
    c.slot.result.now c.args.window c.args.offset c.args.width c.read_window.result
    telling (g.met.I.Image.whole c.self.inside.cache) c.self.invariant there c.read_window.ensures)
