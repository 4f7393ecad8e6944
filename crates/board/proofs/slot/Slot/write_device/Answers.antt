use Rattle.std.proofs.Common.{◌≡◌, Some, sym, ◌∙◌, ap}
use Rattle.board.proofs.FurtherBegins.{write_asked}
use Rattle.board.proofs.slot.Slot.write_device.Goals as goal

pub returns-in-Ok-Some-clause-asks : goal.returns-in-Ok-Some-clause-asks
returns-in-Ok-Some-clause-asks g c =
    let wrote = c.in-Ok-Some.ensures in
    let queue : Some c.in-Ok-Some.queue ≡ c.in-Ok-Some.field-0 = sym c.in-Ok-Some.field-0-is in
    write_asked g.row.A.Denot c.args.device _ c.args.self.now c.self.view_is c.write.new.self c.args.offset c.args.width
    c.args.value c.in-Ok-Some.queue (ap (λ q. Some q) queue ∙ wrote.notified) wrote.waits wrote.written
