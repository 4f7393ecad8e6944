use Rattle.block_device.specs.Device.{block_device}
use Rattle.mmio_window.proofs.Devices.{KeepsDevice-served}
use Rattle.board.proofs.Belonging.{block_changed}
use Rattle.board.proofs.slot.Slot.serve_block.Goals as goal

pub invariant_of-self : goal.invariant_of-self
invariant_of-self g c =
    let served = c.serve_piece in
    block_changed _ _ _ _ _ _ _ c.self.invariant
    (KeepsDevice-served (block_device c.of_image.result.now)
    c.args.budget 0 c.args.stage _ served.result.progress _ _ _ _ _ _ served.ensures.served)
    served.ensures.sound served.ensures.range

pub returns-clause-served : goal.returns-clause-served
returns-clause-served g c = rw (← c.self.view_is) (rw c.of_image.ensures at c.serve_piece.ensures.served)
