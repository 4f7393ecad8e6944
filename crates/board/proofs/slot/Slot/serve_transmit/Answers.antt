use Rattle.std.proofs.Common.{◌≤◌, ℕ, List, ap, length, subst, sym}
use Rattle.console_device.specs.Console.{Console}
use Rattle.console_device.specs.Device.{transmit_fitting, transmit_within}
use Rattle.board.proofs.Belonging.{console_changed, transmit_keeps}
use Rattle.board.proofs.slot.Slot.serve_transmit.Goals as goal

pub invariant_of-self : goal.invariant_of-self
invariant_of-self g c =
    let served = c.serve_transmit_piece in
    let limit = g.O.Outlet.limit c.args.out.now in
    console_changed _ _ _ _ _ _ _ _ c.self.invariant
    (transmit_keeps c.args.stage (transmit_fitting limit) (transmit_within limit) c.args.budget _ _ _ _
    _ _ _ served.result
    served.ensures.ok served.ensures.no_memory)
    served.ensures.sound served.ensures.range
    (subst (λ (pending : List ℕ). length pending ≤ 4096)
    (sym (ap (λ (console : Console). console.pending) served.ensures.same)) c.self.invariant.pending_fits)

pub returns-clause-range : goal.returns-clause-range
returns-clause-range g c = rw (← c.self.view_is) c.serve_transmit_piece.ensures.range
