use Rattle.block_device.proofs.Looking.{whole_look}
use Rattle.block_device.proofs.device.BlockDevice.look.Goals as goal

pub returns-clause-looks : goal.returns-clause-looks
returns-clause-looks g c =
    whole_look c.args.self.now c.look_piece.result
    (record { memory = c.args.mem.now; window = c.args.window.now; tags = c.args.flights.now })
    (record { memory = c.look_piece.new.mem; window = c.look_piece.new.window; tags = c.look_piece.new.flights })
    c.look_piece.ensures.looks
