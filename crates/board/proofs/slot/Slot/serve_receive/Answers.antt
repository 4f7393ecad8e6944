use Rattle.console_device.specs.Device.{receive}
use Rattle.mmio_window.proofs.Devices.{KeepsDevice-served}
use Rattle.board.proofs.Belonging.{console_changed}
use Rattle.board.proofs.Pieces.{piece_fits}
use Rattle.board.proofs.slot.Slot.serve_receive.Goals as goal

pub invariant_of-self : goal.invariant_of-self
invariant_of-self g c =
    let served = c.serve_receive_piece in
    console_changed _ _ _ _ _ _ _ _ c.self.invariant
    (KeepsDevice-served receive c.args.budget 0 c.args.stage _ served.result _ _ _ _ _ _
    served.ensures.served)
    served.ensures.sound served.ensures.range
    (piece_fits c.args.stage c.args.budget _ served.result _ _ _ _ _ _ served.ensures.served
    c.self.invariant.pending_fits)

pub returns-clause-range : goal.returns-clause-range
returns-clause-range g c = rw (← c.self.view_is) c.serve_receive_piece.ensures.range
