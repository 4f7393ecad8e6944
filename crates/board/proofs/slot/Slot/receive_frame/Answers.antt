use Rattle.board.proofs.FurtherBegins.{receive_asked}
use Rattle.board.proofs.slot.Slot.receive_frame.Goals as goal

pub returns-clause-asks : goal.returns-clause-asks
returns-clause-asks g c =
    let took = c.in-Ok.ensures in
    receive_asked g.row.A.Denot c.args.device _ c.args.self.now c.self.view_is c.receive.new.self c.args.frame.now took.fits
    took.received
