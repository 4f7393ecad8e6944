use Rattle.board.proofs.FurtherBegins.{begun}
use Rattle.board.proofs.slot.Slot.begin_at_device.Goals as goal

pub returns-in-Write : goal.returns-in-Write
returns-in-Write g c =
    let asked = c.write_device-asked in
    let begins = c.begin_asked in
    let does =
    begun c.args.device _ c.args.budget c.args.self.now asked.new.self begins.new.self asked.result begins.result
    asked.ensures.asks asked.ensures.answers begins.ensures in
    record { begins = rw (c.in-Write.is) does.0; asks = rw (c.in-Write.is) does.1 }

pub returns-in-Supply : goal.returns-in-Supply
returns-in-Supply g c =
    let asked = c.supply_device-asked in
    let begins = c.begin_asked-in-Supply in
    let does =
    begun c.args.device _ c.args.budget c.args.self.now asked.new.self begins.new.self asked.result begins.result
    asked.ensures.asks asked.ensures.answers begins.ensures in
    record { begins = rw (c.in-Supply.is) does.0; asks = rw (c.in-Supply.is) does.1 }

pub returns-in-Receive : goal.returns-in-Receive
returns-in-Receive g c =
    let asked = c.receive_frame-asked in
    let begins = c.begin_asked-in-Receive in
    let does =
    begun c.args.device _ c.args.budget c.args.self.now asked.new.self begins.new.self asked.result begins.result
    asked.ensures.asks asked.ensures.answers begins.ensures in
    record { begins = rw (c.in-Receive.is) does.0; asks = rw (c.in-Receive.is) does.1 }

pub returns-in-DropSent : goal.returns-in-DropSent
returns-in-DropSent g c =
    let asked = c.drop_sent-asked in
    let begins = c.begin_asked-in-DropSent in
    let does =
    begun c.args.device _ c.args.budget c.args.self.now asked.new.self begins.new.self asked.result begins.result
    asked.ensures.asks asked.ensures.answers begins.ensures in
    record { begins = rw (c.in-DropSent.is) does.0; asks = rw (c.in-DropSent.is) does.1 }
